use Rattle.std.proofs.Common.{[], ◌∷◌, refl, arith}
use Rattle.cls_tree.specs.Opcodes.{form_of}
use Rattle.cls_tree.proofs.Table.{agree, settled}
use Rattle.cls_tree.proofs.instr.form_of.Goals as goal

pub returns-in_default : goal.returns-in_default
unfolding agree form_of
returns-in_default c = settled 0 ([]) 1 0 c.args.op (omega arith) (omega arith) tt refl

pub returns-in_default-2 : goal.returns-in_default-2
unfolding agree form_of
returns-in_default-2 c = settled 0 (16 ∷ 17 ∷ 18 ∷ 19 ∷ 21 ∷ []) 16 9 c.args.op (omega arith) (omega arith)
    (λ e. grind arith, (λ e. grind arith, (λ e. grind arith, (λ e. grind arith, (λ e. grind arith, tt))))) refl

pub returns-in_default-3 : goal.returns-in_default-3
unfolding agree form_of
returns-in_default-3 c = settled 0 ([]) 12 30 c.args.op (omega arith) (omega arith) tt refl

pub returns-in_default-4 : goal.returns-in_default-4
unfolding agree form_of
returns-in_default-4 c = settled 0 (54 ∷ []) 12 46 c.args.op (omega arith) (omega arith) (λ e. grind arith, tt) refl

pub returns-in_default-5 : goal.returns-in_default-5
unfolding agree form_of
returns-in_default-5 c = settled 0 ([]) 12 63 c.args.op (omega arith) (omega arith) tt refl

pub returns-in_default-6 : goal.returns-in_default-6
unfolding agree form_of
returns-in_default-6 c = settled 0 (87 ∷ 89 ∷ []) 16 79 c.args.op (omega arith) (omega arith) (λ e. grind arith, (λ e. grind arith, tt))
    refl

pub returns-in_default-7 : goal.returns-in_default-7
unfolding agree form_of
returns-in_default-7 c = settled 0 (100 ∷ 104 ∷ 108 ∷ 112 ∷ 116 ∷ 132 ∷ []) 56 97 c.args.op (omega arith) (omega arith)
    (λ e. grind arith, (λ e. grind arith, (λ e. grind arith, (λ e. grind arith, (λ e. grind arith, (λ e. grind arith, tt)))))) refl

pub returns-in_default-8 : goal.returns-in_default-8
unfolding agree form_of
returns-in_default-8 c = settled 0 (167 ∷ 170 ∷ 172 ∷ []) 11 165 c.args.op (omega arith) (omega arith)
    (λ e. grind arith, (λ e. grind arith, (λ e. grind arith, tt))) refl

pub returns-in_default-9 : goal.returns-in_default-9
unfolding agree form_of
returns-in_default-9 c = settled 0 (178 ∷ []) 2 178 c.args.op (omega arith) (omega arith) (λ e. grind arith, tt) refl

pub returns-in_default-10 : goal.returns-in_default-10
unfolding agree form_of
returns-in_default-10 c = settled 0 (187 ∷ []) 13 185 c.args.op (omega arith) (omega arith) (λ e. grind arith, tt) refl

pub returns-in_default-11 : goal.returns-in_default-11
unfolding agree form_of
returns-in_default-11 c = settled 0 ([]) 56 200 c.args.op (omega arith) (omega arith) tt refl

pub returns-in-182-to-184 : goal.returns-in-182-to-184
unfolding agree form_of
returns-in-182-to-184 c = settled 11 ([]) 3 182 c.args.op (omega arith) (omega arith) tt refl

pub returns-in-178-2 : goal.returns-in-178-2
unfolding agree form_of
returns-in-178-2 c = settled 10 ([]) 2 180 c.args.op (omega arith) (omega arith) tt refl

pub returns-in-153-to-164-3 : goal.returns-in-153-to-164-3
unfolding agree form_of
returns-in-153-to-164-3 c = settled 6 ([]) 2 198 c.args.op (omega arith) (omega arith) tt refl
