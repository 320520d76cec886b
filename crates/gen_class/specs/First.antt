-- The faults of a program's class files, and of the code of a method alone.
use Rattle.std.specs.Prelude.{◌≡◌, List, Option}
use Rattle.cls_tree.specs.declared.class.Const.{Const}
use Rattle.jv_core.specs.Tree.{Method, Program}
use Rattle.jv_core.specs.Lookup.{text_at}
use Rattle.gen_rules.specs.Symbolic.{Instr}
use Rattle.gen_rules.specs.Templates.{IsCode}
use Rattle.gen_rules.specs.Classes.{compiled}
use Rattle.gen_rules.specs.Limits.{Excess, IsFirstExcess, exceeded_by_code}
use Rattle.gen_members.specs.declared.faults.GenFault.{GenFault}
use Rattle.gen_members.specs.Parts.{excess_at}
use Rattle.gen_members.specs.Told.{Tells}

-- the fault tells the first excess, or want of memory
abbrev pub TellsFirst : Program → GenFault → Type 0
TellsFirst p e = (excess : Option Excess) → IsFirstExcess p excess → Tells excess e

-- the first limit that the code of a method exceeds behind this pool, if it exceeds one
pub record IsExcessOfCode (p : Program) (m : Method) (pool : List Const) (excess : Option Excess) : Type 0 where
  pub code : List Instr
  pub is_code : IsCode p m code
  pub is : excess ≡ excess_at m.place (text_at p m.name) (exceeded_by_code (compiled p m code) pool)

-- the fault tells that limit, or want of memory
abbrev pub TellsCode : Program → Method → List Const → GenFault → Type 0
TellsCode p m pool e = (excess : Option Excess) → IsExcessOfCode p m pool excess → Tells excess e
