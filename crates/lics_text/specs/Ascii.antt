-- The bytes of ASCII by their names.
use Rattle.std.specs.Prelude.{ℕ}

-- ends a line
abbrev pub line_feed : ℕ
line_feed = 10

-- stands before a line feed at the end of a line in some texts
abbrev pub carriage_return : ℕ
carriage_return = 13

-- the least byte of a text
abbrev pub space : ℕ
space = 32

-- "
abbrev pub quote : ℕ
quote = 34

-- #
abbrev pub hash : ℕ
hash = 35

-- $
abbrev pub dollar : ℕ
dollar = 36

-- %
abbrev pub percent : ℕ
percent = 37

-- &
abbrev pub ampersand : ℕ
ampersand = 38

-- '
abbrev pub apostrophe : ℕ
apostrophe = 39

-- (
abbrev pub opening_parenthesis : ℕ
opening_parenthesis = 40

-- )
abbrev pub closing_parenthesis : ℕ
closing_parenthesis = 41

-- *
abbrev pub star : ℕ
star = 42

-- +
abbrev pub plus : ℕ
plus = 43

-- ,
abbrev pub comma : ℕ
comma = 44

-- -
abbrev pub minus : ℕ
minus = 45

-- .
abbrev pub dot : ℕ
dot = 46

-- /
abbrev pub slash : ℕ
slash = 47

-- 0, behind which the other digits follow
abbrev pub zero : ℕ
zero = 48

-- 1
abbrev pub one : ℕ
one = 49

-- 2
abbrev pub two : ℕ
two = 50

-- 3
abbrev pub three : ℕ
three = 51

-- 9
abbrev pub nine : ℕ
nine = 57

-- :
abbrev pub colon : ℕ
colon = 58

-- ;
abbrev pub semicolon : ℕ
semicolon = 59

-- <
abbrev pub less : ℕ
less = 60

-- =
abbrev pub equals : ℕ
equals = 61

-- >
abbrev pub greater : ℕ
greater = 62

-- ?
abbrev pub question_mark : ℕ
question_mark = 63

-- @
abbrev pub at_sign : ℕ
at_sign = 64

-- A, behind which the other capitals follow
abbrev pub capital_a : ℕ
capital_a = 65

-- B
abbrev pub capital_b : ℕ
capital_b = 66

-- C
abbrev pub capital_c : ℕ
capital_c = 67

-- D
abbrev pub capital_d : ℕ
capital_d = 68

-- E
abbrev pub capital_e : ℕ
capital_e = 69

-- F
abbrev pub capital_f : ℕ
capital_f = 70

-- G
abbrev pub capital_g : ℕ
capital_g = 71

-- I
abbrev pub capital_i : ℕ
capital_i = 73

-- J
abbrev pub capital_j : ℕ
capital_j = 74

-- L
abbrev pub capital_l : ℕ
capital_l = 76

-- M
abbrev pub capital_m : ℕ
capital_m = 77

-- N
abbrev pub capital_n : ℕ
capital_n = 78

-- O
abbrev pub capital_o : ℕ
capital_o = 79

-- P
abbrev pub capital_p : ℕ
capital_p = 80

-- Q
abbrev pub capital_q : ℕ
capital_q = 81

-- R
abbrev pub capital_r : ℕ
capital_r = 82

-- S
abbrev pub capital_s : ℕ
capital_s = 83

-- T
abbrev pub capital_t : ℕ
capital_t = 84

-- U
abbrev pub capital_u : ℕ
capital_u = 85

-- V
abbrev pub capital_v : ℕ
capital_v = 86

-- X
abbrev pub capital_x : ℕ
capital_x = 88

-- Y
abbrev pub capital_y : ℕ
capital_y = 89

-- Z
abbrev pub capital_z : ℕ
capital_z = 90

-- \
abbrev pub backslash : ℕ
backslash = 92

-- ^
abbrev pub caret : ℕ
caret = 94

-- _
abbrev pub underscore : ℕ
underscore = 95

-- {
abbrev pub opening_brace : ℕ
opening_brace = 123

-- |
abbrev pub bar : ℕ
bar = 124

-- }
abbrev pub closing_brace : ℕ
closing_brace = 125

-- ~
abbrev pub tilde : ℕ
tilde = 126

-- the first byte that is not printed as it stands
abbrev pub delete : ℕ
delete = 127
