-- Annotations of a class (JVMS 4.7.16, 4.7.17): the descriptors of their types, and their elements.
-- Of a value that holds others, nothing is kept but that it does.
use Rattle.std.specs.Prelude.{ℕ, zero, suc, List, [], ◌∷◌, ◌++◌, Option, Some, None, Result, Ok, ◌==◌, ◌||◌, if◌then◌else◌}
use Rattle.jcf_tree.specs.declared.class.Element.{Element}
use Rattle.jcf_tree.specs.declared.class.ElementValue.{ElementValue}
use Rattle.jcf_tree.specs.declared.class.ElementValue.TheVariants as values
use Rattle.jcf_tree.specs.declared.kind.Kind.{Kind}
use Rattle.jcf_tree.specs.declared.kind.Kind.TheVariants as needs
use Rattle.jcf_tree.specs.Tree.{Annotation}
use Rattle.jcf_read.specs.declared.fault.FaultKind.TheVariants as kinds
use Rattle.jcf_read.specs.declared.fault.Fault.{Fault}
use Rattle.jcf_read.specs.Answer.{◌>>=◌, wrong, folded}
use Rattle.jcf_read.specs.Front.{Front, Reader, number_at}
use Rattle.jcf_read.specs.Pool.{Pool, named_at}
use Rattle.jcf_read.specs.Constants.{both_at}

-- the constants of numbers, characters and truth values, by the tag of a value: B, C, I, S and Z, D, F, J
abbrev pub constant_of : ℕ → Option Kind
constant_of tag =
    if tag == 66 || (tag == 67 || (tag == 73 || (tag == 83 || tag == 90))) then Some needs.Integer
    else if tag == 68 then Some needs.Double
    else if tag == 70 then Some needs.Float
    else if tag == 74 then Some needs.Long
    else None

abbrev pub valued : (ℕ → ElementValue) → Result (ℕ × ℕ) Fault → Result (ElementValue × ℕ) Fault
valued make read = read >>= λ x. Ok (make x.0, x.1)

abbrev pub constant_at : Pool → Option Kind → ℕ → Reader ElementValue
constant_at pool None tagged front at = wrong kinds.BadAttribute tagged
constant_at pool (Some kind) tagged front at = valued values.Constant (named_at pool kind front at)

-- what a value with this tag holds that holds no others: the tag s of a text, c of a class, e of a constant of an enum.
-- The tag stands at the place tagged.
unfoldable pub plain_at : Pool → ℕ → ℕ → Reader ElementValue
plain_at pool tag tagged front at =
    if tag == 115 then valued values.Text (named_at pool needs.Text front at)
    else if tag == 99 then valued values.Class (named_at pool needs.Text front at)
    else if tag == 101 then (both_at pool needs.Text needs.Text front at >>= λ x. Ok (values.EnumConstant x.0.0 x.0.1, x.1))
    else constant_at pool (constant_of tag) tagged front at

-- the place behind one value more
abbrev pub value_turn : Reader ElementValue → Front → ℕ → Result ℕ Fault
value_turn value front at = value front at >>= λ x. Ok x.1

-- the place behind values in a row, which stand behind their count
unfoldable pub behind_values : Reader ElementValue → Front → ℕ → Result ℕ Fault
behind_values value front at = number_at 2 front at >>= λ n. folded (value_turn value front) n.0 n.1

-- an element: its name and its value
unfoldable pub element_at : Pool → Reader ElementValue → Reader Element
element_at pool value front at = do
  name ← named_at pool needs.Text front at
  found ← value front name.1
  Ok (record { name = name.0; value = found.0 }, found.1)

abbrev pub behind_turn : Pool → Reader ElementValue → Front → ℕ → Result ℕ Fault
behind_turn pool value front at = element_at pool value front at >>= λ x. Ok x.1

-- the place behind an annotation: the descriptor of its type, and its elements behind their count
unfoldable pub behind_annotation : Pool → Reader ElementValue → Front → ℕ → Result ℕ Fault
behind_annotation pool value front at = do
  descriptor ← named_at pool needs.Text front at
  n ← number_at 2 front descriptor.1
  folded (behind_turn pool value front) n.0 n.1

-- A value, in which others stand so deep at most: the tag [ of values in a row, @ of an annotation.
unfoldable pub value_at : ℕ → Pool → Reader ElementValue
value_at zero pool front at = wrong kinds.BadAttribute at
value_at (suc depth) pool front at =
    number_at 1 front at >>= λ tag.
    if tag.0 == 91 then (behind_values (value_at depth pool) front tag.1 >>= λ to. Ok (values.Array, to))
    else if tag.0 == 64 then (behind_annotation pool (value_at depth pool) front tag.1 >>= λ to. Ok (values.Annotation, to))
    else plain_at pool tag.0 at front tag.1

-- how deep values stand in an annotation at most
abbrev pub deepest : ℕ
deepest = 200

-- one element more
unfoldable pub element_turn : Pool → Front → List Element × ℕ → Result (List Element × ℕ) Fault
element_turn pool front s = do
  element ← element_at pool (value_at deepest pool) front s.1
  Ok (s.0 ++ element.0 ∷ [], element.1)

-- an annotation
unfoldable pub annotation_at : Pool → Reader Annotation
annotation_at pool front at = do
  descriptor ← named_at pool needs.Text front at
  n ← number_at 2 front descriptor.1
  elements ← folded (element_turn pool front) n.0 ([], n.1)
  Ok (record { type_descriptor = descriptor.0; elements = elements.0 }, elements.1)

-- one annotation more
unfoldable pub annotation_turn : Pool → Front → List Annotation × ℕ → Result (List Annotation × ℕ) Fault
annotation_turn pool front s = do
  annotation ← annotation_at pool front s.1
  Ok (s.0 ++ annotation.0 ∷ [], annotation.1)

-- the annotations of an attribute, behind those of others
unfoldable pub annotations_at : Pool → Front → List Annotation × ℕ → Result (List Annotation × ℕ) Fault
annotations_at pool front s = do
  n ← number_at 2 front s.1
  folded (annotation_turn pool front) n.0 (s.0, n.1)
