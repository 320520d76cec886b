-- Members of built-in classes are constants, and keep their opcodes.
use Rattle.std.proofs.Common.{◌≡◌, ℕ, List, refl}
use Rattle.cls_tree.specs.Tree as file
use Rattle.vm_model.specs.declared.linked.Built.{Built}
use Rattle.gen_expressions.specs.View.{built_in_of}
use Rattle.gen_expressions.proofs.BuiltIns.{of_members}
use Rattle.gen_members.specs.Laid.{final_op, final_args}

pub built_in_op : (b : Built) (op k : ℕ) → final_op op (built_in_of b) k ≡ op
built_in_op b op k = of_members (λ o. final_op op o k ≡ op) (λ r. refl) (λ r. refl) b

pub built_in_args : (b : Built) (starts : List ℕ) (here k : ℕ) → final_args starts here (built_in_of b) k ≡ file.Pool k
built_in_args b starts here k = of_members (λ o. final_args starts here o k ≡ file.Pool k) (λ r. refl) (λ r. refl) b

pub ruleset built_ins = (built_in_op, built_in_args)
