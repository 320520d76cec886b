-- The code of a method (JVMS 4.7.3), with its handlers and the tables of its lines and variables.
use Rattle.std.specs.Prelude.{ℕ, List, [], ◌∷◌, ◌++◌, length, Result, Ok, Bool, if◌then◌else◌, codes}
use Rattle.jcf_tree.specs.declared.class.Const.{Const}
use Rattle.jcf_tree.specs.declared.class.Handler.{Handler}
use Rattle.jcf_tree.specs.declared.class.Line.{Line}
use Rattle.jcf_tree.specs.declared.class.Variable.{Variable}
use Rattle.jcf_tree.specs.declared.kind.Kind.TheVariants as needs
use Rattle.jcf_tree.specs.Tree.{Code}
use Rattle.jcf_read.specs.declared.fault.FaultKind.TheVariants as kinds
use Rattle.jcf_read.specs.declared.fault.Fault.{Fault}
use Rattle.jcf_read.specs.Answer.{◌>>=◌, wrong, folded}
use Rattle.jcf_read.specs.Front.{Front, content, Reader, number_at, run_at}
use Rattle.jcf_read.specs.Pool.{Pool, named_at, named_or_none_at}
use Rattle.jcf_read.specs.Attributes.{attribute_at, ends_at, is_named}
use Rattle.jcf_read.specs.Jumps.{misses, checked}

-- a place of a code of this length, which is the beginning of an instruction or the code's end
unfoldable pub target_at : List Bool → ℕ → Reader ℕ
target_at marks len front at = do
  place ← number_at 2 front at
  if misses marks len place.0 then wrong kinds.BadJump at else Ok place

-- the bounds of what a handler covers
unfoldable pub covered_at : List Bool → ℕ → Reader (ℕ × ℕ)
covered_at marks len front at = do
  start ← target_at marks len front at
  end ← target_at marks len front start.1
  Ok ((start.0, end.0), end.1)

-- one handler more, behind those before it
unfoldable pub handler_turn : Pool → List Bool → ℕ → Front → List Handler × ℕ → Result (List Handler × ℕ) Fault
handler_turn pool marks len front s = do
  covered ← covered_at marks len front s.1
  handler ← target_at marks len front covered.1
  catches ← named_or_none_at pool needs.Class front handler.1
  Ok (
    s.0 ++ record { start = covered.0.0; end = covered.0.1; handler = handler.0; catches = catches.0 } ∷ [],
    catches.1,
  )

unfoldable pub handlers_at : Pool → List Bool → ℕ → Reader (List Handler)
handlers_at pool marks len front at = do
  n ← number_at 2 front at
  folded (handler_turn pool marks len front) n.0 ([], n.1)

-- one line more (JVMS 4.7.12)
unfoldable pub line_turn : Front → List Line × ℕ → Result (List Line × ℕ) Fault
line_turn front s = do
  start ← number_at 2 front s.1
  line ← number_at 2 front start.1
  Ok (s.0 ++ record { start = start.0; line = line.0 } ∷ [], line.1)

-- the lines of a table, behind those of others
unfoldable pub lines_at : Front → List Line × ℕ → Result (List Line × ℕ) Fault
lines_at front s = do
  n ← number_at 2 front s.1
  folded (line_turn front) n.0 (s.0, n.1)

-- one variable more (JVMS 4.7.13)
unfoldable pub variable_turn : Pool → Front → List Variable × ℕ → Result (List Variable × ℕ) Fault
variable_turn pool front s = do
  start ← number_at 2 front s.1
  len ← number_at 2 front start.1
  name ← named_at pool needs.Text front len.1
  descriptor ← named_at pool needs.Text front name.1
  local ← number_at 2 front descriptor.1
  Ok (
    s.0 ++ record { start = start.0; length = len.0; name = name.0; descriptor = descriptor.0; local = local.0 } ∷ [],
    local.1,
  )

-- the variables of a table, behind those of others
unfoldable pub variables_at : Pool → Front → List Variable × ℕ → Result (List Variable × ℕ) Fault
variables_at pool front s = do
  n ← number_at 2 front s.1
  folded (variable_turn pool front) n.0 (s.0, n.1)

-- lines and variables that were read, and the place behind them
abbrev pub Tables : Type 0
Tables = List Line × List Variable × ℕ

-- one attribute of a code more: a table of lines or of variables is read, others aren't
unfoldable pub table_turn : Pool → List Const → Front → Tables → Result Tables Fault
table_turn pool constants front s =
    attribute_at pool front s.2 >>= λ a.
    if is_named constants a.name (codes "LineNumberTable") then
    (lines_at (content a.to front) (s.0, a.from) >>= λ lines. ends_at lines.1 a.to >>= λ to. Ok (lines.0, s.1, to))
    else if is_named constants a.name (codes "LocalVariableTable") then
    (variables_at pool (content a.to front) (s.1, a.from) >>= λ variables. ends_at variables.1 a.to >>= λ to.
    Ok (s.0, variables.0, to))
    else Ok (s.0, s.1, a.to)

unfoldable pub tables_at : Pool → List Const → Front → ℕ → Result Tables Fault
tables_at pool constants front at = do
  n ← number_at 2 front at
  folded (table_turn pool constants front) n.0 ([], [], n.1)

-- how many words of operands and of locals there are
unfoldable pub sizes_at : Reader (ℕ × ℕ)
sizes_at front at = do
  stack ← number_at 2 front at
  locals ← number_at 2 front stack.1
  Ok ((stack.0, locals.0), locals.1)

-- a code: its sizes, its length and so many bytes, its handlers and its attributes
unfoldable pub code_at : Pool → List Const → Reader Code
code_at pool constants front at = do
  sizes ← sizes_at front at
  size ← number_at 4 front sizes.1
  run ← run_at size.0 front size.1
  marks ← checked pool run.0 run.1
  handlers ← handlers_at pool marks (length run.0) front run.1
  tables ← tables_at pool constants front handlers.1
  Ok (
    record {
      max_stack = sizes.0.0;
      max_locals = sizes.0.1;
      bytes = run.0;
      handlers = handlers.0;
      lines = tables.0;
      variables = tables.1;
    },
    tables.2,
  )
