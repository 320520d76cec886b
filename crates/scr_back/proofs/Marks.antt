-- The words that a printed protocol has.
use Rattle.std.proofs.Common.{◌≡◌, length, true, refl, ap, codes, arith}
use Rattle.std.proofs.lemmas.Bool.Decides.{nat_tests}
use Rattle.std.specs.Prelude.{nat_lt}
use Rattle.mg_text.specs.Call.{Name}
use Rattle.mg_text.specs.declared.place.Place.{Place}
use Rattle.mg_read.specs.Letters.{is_name_start}
use Rattle.mg_read.specs.Passes.{StartsWith}
use Rattle.mg_read.proofs.Plain.{all_of, all_pass}
use Rattle.scr_tree.specs.declared.token.Mark.TheVariants as marks
use Rattle.scr_tree.specs.declared.syntax.Direction.{Direction}
use Rattle.scr_tree.specs.declared.syntax.Direction.TheVariants as directions
use Rattle.scr_tree.specs.Tok.{Tok, named, marked}
use Rattle.scr_tree.specs.Words.{IsName, reserved}
use Rattle.scr_lex.specs.Pieces.{word_tok}
use Rattle.scr_parse.specs.Grammar.{direction_mark}
use Rattle.scr_read.specs.Layout.{direction_word}
use Rattle.mg_read.specs.Culprit.{Culprit}
use Rattle.scr_read.specs.Unsupported.{IsUnsupported}
use Rattle.scr_read.specs.declared.words.ProtocolKind.TheVariants as kinds
use Rattle.scr_back.proofs.Told.{IsToken, supported}

-- a name
pub naming : (w : Name) → IsName w → IsToken w (λ a. named a w)
naming w h = record { starts = h.starts; bytes = h.bytes; short = h.short; token = λ p. ap (word_tok p w) h.free; used = λ p c x. x }

-- a word of letters, of this length
spelled : (w : Name) (tok : Place → Tok) → StartsWith is_name_start w → all_of w ≡ true → nat_lt (length w) 256 ≡ true →
    ((p : Place) → word_tok p w (reserved w) ≡ tok p) →
    ((p : Place) (c : Culprit) → IsUnsupported kinds.Local (tok p) c → ⊥) → IsToken w tok
spelled w tok starts passes short token used = record {
  starts = starts;
  bytes = all_pass w passes;
  short =
      grind (arith, nat_tests);
  token = token;
  used = used;
}

pub local_word : IsToken (codes "local") (λ a. marked a marks.Local)
unfolding reserved all_of
local_word = spelled (codes "local") (λ a. marked a marks.Local) refl refl refl (λ p. refl) (supported marks.Local refl)

pub protocol_word : IsToken (codes "protocol") (λ a. marked a marks.Protocol)
unfolding reserved all_of
protocol_word = spelled (codes "protocol") (λ a. marked a marks.Protocol) refl refl refl (λ p. refl) (supported marks.Protocol refl)

pub at_word : IsToken (codes "at") (λ a. marked a marks.At)
unfolding reserved all_of
at_word = spelled (codes "at") (λ a. marked a marks.At) refl refl refl (λ p. refl) (supported marks.At refl)

pub role_word : IsToken (codes "role") (λ a. marked a marks.Role)
unfolding reserved all_of
role_word = spelled (codes "role") (λ a. marked a marks.Role) refl refl refl (λ p. refl) (supported marks.Role refl)

pub choice_word : IsToken (codes "choice") (λ a. marked a marks.Choice)
unfolding reserved all_of
choice_word = spelled (codes "choice") (λ a. marked a marks.Choice) refl refl refl (λ p. refl) (supported marks.Choice refl)

pub or_word : IsToken (codes "or") (λ a. marked a marks.Or)
unfolding reserved all_of
or_word = spelled (codes "or") (λ a. marked a marks.Or) refl refl refl (λ p. refl) (supported marks.Or refl)

pub rec_word : IsToken (codes "rec") (λ a. marked a marks.Rec)
unfolding reserved all_of
rec_word = spelled (codes "rec") (λ a. marked a marks.Rec) refl refl refl (λ p. refl) (supported marks.Rec refl)

pub continue_word : IsToken (codes "continue") (λ a. marked a marks.Continue)
unfolding reserved all_of
continue_word = spelled (codes "continue") (λ a. marked a marks.Continue) refl refl refl (λ p. refl) (supported marks.Continue refl)

pub do_word : IsToken (codes "do") (λ a. marked a marks.Do)
unfolding reserved all_of
do_word = spelled (codes "do") (λ a. marked a marks.Do) refl refl refl (λ p. refl) (supported marks.Do refl)

pub to_word : IsToken (codes "to") (λ a. marked a marks.To)
unfolding reserved all_of
to_word = spelled (codes "to") (λ a. marked a marks.To) refl refl refl (λ p. refl) (supported marks.To refl)

pub from_word : IsToken (codes "from") (λ a. marked a marks.From)
unfolding reserved all_of
from_word = spelled (codes "from") (λ a. marked a marks.From) refl refl refl (λ p. refl) (supported marks.From refl)

pub int_type : IsToken (codes "int") (λ a. named a (codes "int"))
unfolding reserved all_of
int_type = spelled (codes "int") (λ a. named a (codes "int")) refl refl refl (λ p. refl) (λ p c x. x)

pub boolean_type : IsToken (codes "boolean") (λ a. named a (codes "boolean"))
unfolding reserved all_of
boolean_type = spelled (codes "boolean") (λ a. named a (codes "boolean")) refl refl refl (λ p. refl) (λ p c x. x)

pub string_type : IsToken (codes "String") (λ a. named a (codes "String"))
unfolding reserved all_of
string_type = spelled (codes "String") (λ a. named a (codes "String")) refl refl refl (λ p. refl) (λ p c x. x)

pub direction_token : (d : Direction) → IsToken (direction_word d) (λ a. marked a (direction_mark d))
direction_token directions.To = to_word
direction_token directions.From = from_word
