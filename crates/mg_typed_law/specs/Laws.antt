-- What is owed: class files that commands write are typable, and runs of typable class files are never bad.
use Rattle.std.specs.Prelude.{ℕ, List}
use Rattle.cls_verify.specs.Typing.{AllTypable}
use Rattle.vm_world_law.specs.declared.role.RoleMain.{RoleMain}
use Rattle.mg_sources.specs.Files.{Source}
use Rattle.mg_compile.specs.declared.files.ClassFile.{ClassFile}
use Rattle.mg_compile.specs.Compiled.{AreCompiled}
use Rattle.mg_runs.specs.Headline.{Course, IsCourse}
use Rattle.mg_exec.specs.Runs as executing
use Rattle.mg_typed_law.specs.Typed.{NeverBad, LinkTypable}

-- The class files of accepted files link to a program each of whose methods has a typing.
abbrev pub CompiledClassesAreTypable : Type 0
CompiledClassesAreTypable = (files : List Source) (written : List ClassFile) → AreCompiled files written → LinkTypable written

-- Each method of the program that roles of such files run has one.
abbrev pub RunsAreTypable : Type 0
RunsAreTypable = (files : List Source) (mains : List RoleMain) (order : List ℕ) (limit : ℕ) (run : Course) →
    IsCourse files mains order limit run → AllTypable run.program

-- Where class files from outside link to a program each of whose methods has a typing, no role of their run ends badly.
abbrev pub TypableRunsNeverBad : Type 0
TypableRunsNeverBad = (files : List Source) (mains : List RoleMain) (order : List ℕ) (limit : ℕ) (run : executing.Course) →
    executing.IsRun files mains order limit run → AllTypable run.program → NeverBad run
