use Rattle.std.specs.Prelude.{ℕ}
use Rattle.jv_values.specs.Further.{FurtherShared}
use Rattle.jv_values.specs.Values.{Shared}
use Rattle.jv_values.specs.Alike.{Relation, Shares}
use Rattle.jv_values.specs.Laws.{GoesThrough}
use Rattle.jv_values.proofs.Expressions.{binary_same, negative_same, opposite_same, equal_texts_same, joined_texts_same, print_same}
use Rattle.jv_values.proofs.Expressions.{read_field_same, write_field_same, make_same, receiver_same, telling_same, session_same, tells}
use Rattle.jv_values.proofs.Further.{further_shares, budget_law}
use Rattle.jv_values.proofs.library_laws.Goals as goal

through : (R : Relation Shared Shared) → Shares R → GoesThrough R
through R h = record {
  binary = λ o a b a' b' k l. binary_same R (tells h) o k l;
  negative = negative_same R (tells h);
  opposite = opposite_same R (tells h);
  equal_texts = equal_texts_same R (tells h);
  joined_texts = joined_texts_same R (tells h);
  print = print_same R (tells h);
  read_field = read_field_same R (tells h);
  write_field = write_field_same R h;
  make = make_same R h;
  receiver = receiver_same R (tells h);
  telling = λ o m c c' e. telling_same R h o m e;
  session = session_same R (tells h);
}

pub returns : goal.returns
returns c = record { through = through FurtherShared further_shares; budget = budget_law ℕ ℕ ℕ }
