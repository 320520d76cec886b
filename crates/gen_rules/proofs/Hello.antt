-- The class file of the program that prints is computed.
use Rattle.std.proofs.Common.{refl}
use Rattle.std.specs.Str.{chars}
use Rattle.cls_tree.specs.Emitted.{number_of}
use Rattle.cls_tree.specs.Modified.{modified}
use Rattle.cls_tree.specs.Opcodes.{form_of}
use Rattle.cls_tree.specs.Jumps.{starts_from}
use Rattle.gen_rules.specs.Classes.{class_file}
use Rattle.gen_rules.specs.inner.Files.{generated_class}
use Rattle.gen_rules.specs.examples.Hello.{HelloIsMade, hello_class, hello}
use Rattle.gen_rules.proofs.Files.{files_are}
use Rattle.gen_rules.proofs.Linking.{hello_links}

pub hello_is_made : HelloIsMade
unfolding number_of starts_from form_of modified chars
hello_is_made = record {
  made = class_file hello hello_class (generated_class hello 0 hello_class);
  classes = files_are hello;
  bytes = refl;
  links = hello_links;
}
