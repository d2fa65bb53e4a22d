-- Rows, pages and bands, one after another.
use Rattle.std.proofs.Common.{◌≡◌, ℕ, suc, ◌+◌, ◌-◌, ◌<◌, List, ◌++◌, length, ap, sym, ◌∙◌}
use Rattle.std.proofs.Common.{arith, append_assoc, length-append}
use Rattle.print_report.specs.Pages.{limit, page, page_rows, pages, row_line, rows, Printing}

-- what is put before the rest
pub before : (out a now end rest : List ℕ) → now ≡ out ++ a → end ≡ now ++ rest → end ≡ out ++ (a ++ rest)
before out a now end rest first second = second ∙ ap (λ (l : List ℕ). l ++ rest) first ∙ append_assoc out a rest

-- one of the rows that are left
pub row_put : (p : Printing) (band start all out next : List ℕ) (row count n : ℕ) → n < count
    → start ++ all ≡ out ++ rows p band (row + n) (count - n) → next ≡ out ++ row_line p band (row + n)
    → start ++ all ≡ next ++ rows p band (row + (n + 1)) (count - (n + 1))
row_put p band start all out next row count n less so_far is =
    let left : count - n ≡ suc (count - (n + 1)) = omega arith in
    so_far ∙ ap (λ (k : ℕ). out ++ rows p band (row + n) k) left
    ∙ sym (append_assoc out (row_line p band (row + n)) (rows p band (row + n + 1) (count - (n + 1))))
    ∙ ap (λ (l : List ℕ). l ++ rows p band (row + n + 1) (count - (n + 1))) (sym is)
    ∙ ap (λ (k : ℕ). next ++ rows p band k (count - (n + 1))) (let e : row + n + 1 ≡ row + (n + 1) = omega arith in e)

-- one of the pages that are left
pub page_put : (p : Printing) (band start all out next : List ℕ) (number row count n height : ℕ) → n < count
    → height ≡ page_rows p.set
    → start ++ all ≡ out ++ pages p band (number + n) row (count - n) → next ≡ out ++ page p band (number + n) row
    → start ++ all ≡ next ++ pages p band (number + (n + 1)) (row + height) (count - (n + 1))
page_put p band start all out next number row count n height less tall so_far is =
    let left : count - n ≡ suc (count - (n + 1)) = omega arith in
    so_far ∙ ap (λ (k : ℕ). out ++ pages p band (number + n) row k) left
    ∙ sym (append_assoc out (page p band (number + n) row)
    (pages p band (number + n + 1) (row + page_rows p.set) (count - (n + 1))))
    ∙ ap (λ (l : List ℕ). l ++ pages p band (number + n + 1) (row + page_rows p.set) (count - (n + 1))) (sym is)
    ∙ ap (λ (k : ℕ). next ++ pages p band k (row + page_rows p.set) (count - (n + 1)))
    (let e : number + n + 1 ≡ number + (n + 1) = omega arith in e)
    ∙ ap (λ (k : ℕ). next ++ pages p band (number + (n + 1)) (row + k) (count - (n + 1))) (sym tall)

-- what is too long in part is too long
pub too_long : (start all next rest : List ℕ) → start ++ all ≡ next ++ rest → limit < length next
    → limit < length (start ++ all)
too_long start all next rest is long = omega (arith, ap length is, length-append next rest)
