-- What is looked at where it is kept, as what it is.
use Rattle.formula_tree.specs.declared.value.Content.{Content}
use Rattle.formula_tree.specs.declared.value.Content.TheVariants as content
use Rattle.formula_tree.specs.declared.value.ContentRef.{ContentRef}
use Rattle.formula_tree.specs.declared.value.ContentRef.TheVariants as content_ref
use Rattle.formula_tree.specs.declared.value.Value.{Value}
use Rattle.formula_tree.specs.declared.value.Value.TheVariants as value
use Rattle.formula_tree.specs.declared.value.ValueRef.{ValueRef}
use Rattle.formula_tree.specs.declared.value.ValueRef.TheVariants as value_ref
use Rattle.lics_text.specs.Seen.{seen_text}

-- the value that is looked at
abbrev pub seen_value : ValueRef → Value
seen_value value_ref.Blank = value.Blank
seen_value (value_ref.Num x) = value.Num x
seen_value (value_ref.Str t) = value.Str (seen_text t)
seen_value value_ref.Err = value.Err
seen_value value_ref.Na = value.Na

-- the content that is looked at
abbrev pub seen_content : ContentRef → Content
seen_content content_ref.Blank = content.Blank
seen_content (content_ref.Number x) = content.Number x
seen_content (content_ref.Label p t) = content.Label p (seen_text t)
seen_content (content_ref.Formula f) = content.Formula f.now
