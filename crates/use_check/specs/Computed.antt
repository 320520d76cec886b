-- The texts of reports of worked programs with given tables, and the demands that fail there.
use Rattle.std.specs.Prelude.{◌≡◌, ◌++◌, [], codes}
use Rattle.use_rules.specs.Computed.{Fails}
use Rattle.use_rules.specs.examples.Main.{reached, kept, kept_tables}
use Rattle.use_rules.specs.examples.Holder.{both_reached, holder_tables, is_tested, swaps, swap_tables}
use Rattle.use_check.specs.Report.{report_text}
use Rattle.use_check.specs.examples.Nodes.{nodes, nodes_reached, nodes_tables}
use Rattle.use_check.specs.examples.Files.{files, unclosed, files_reached, files_tables, unclosed_fails}

pub record ReportsOfExamples : Type 0 where
  -- a counter that a loop and a recursion hand on
  pub kept_reports : report_text kept reached kept_tables ≡
      codes "param Main.step c = Live\n" ++ codes "result Main.step = Live\n" ++ codes "loop Main.main 1 x = Live\n"
  -- a counter in a field, which is null where its holder begins
  pub tested_reports : report_text is_tested both_reached holder_tables ≡ codes "field Holder Start c = null\n"
  -- a helper puts one into the field
  pub swaps_report : report_text swaps both_reached swap_tables ≡
      codes "field Holder Start c = null\n" ++ codes "enter Holder.swap c = Live\n" ++ codes "leave Holder.swap c = Live\n"
  -- a linked list
  pub nodes_report : report_text nodes nodes_reached nodes_tables ≡
      codes "field Node Fresh next = null\n" ++ codes "field Node Open next = null Open\n" ++ codes "param Node@Fresh.link n = null Open\n"
      ++ codes "loop Main.main 1 a = null Open\n"
  pub nodes_fail : Fails nodes nodes_reached nodes_tables []
  -- a reader of files
  pub files_report : report_text files files_reached files_tables ≡ codes "loop Main.main 1 f = Open\n"
  pub files_fail : Fails files files_reached files_tables []
  -- one that forgets to close its file
  pub unclosed_fail : Fails unclosed files_reached files_tables unclosed_fails
