-- What a message carries: its class of Java, the name of its type in a protocol, and its part of a call's name.
use Rattle.std.specs.Prelude.{ℕ, List, [], codes}
use Rattle.scr_tree.specs.declared.syntax.Payload.{Payload}
use Rattle.scr_tree.specs.declared.syntax.Payload.TheVariants as payloads

abbrev pub payload_class : Payload → List ℕ
payload_class payloads.Nothing = []
payload_class payloads.Int = codes "java.lang.Integer"
payload_class payloads.Boolean = codes "java.lang.Boolean"
payload_class payloads.Text = codes "java.lang.String"

abbrev pub payload_word : Payload → List ℕ
payload_word payloads.Nothing = []
payload_word payloads.Int = codes "int"
payload_word payloads.Boolean = codes "boolean"
payload_word payloads.Text = codes "String"

-- the part of a name that tells what a message carries
abbrev pub payload_part : Payload → List ℕ
payload_part payloads.Nothing = []
payload_part payloads.Int = codes "Int"
payload_part payloads.Boolean = codes "Boolean"
payload_part payloads.Text = codes "String"
