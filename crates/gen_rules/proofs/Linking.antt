-- The class files of the worked programs link to the programs that are expected.
use Rattle.std.proofs.Common.{refl, sym, subst}
use Rattle.cls_tree.specs.Emitted.{number_of}
use Rattle.cls_tree.specs.Opcodes.{form_of}
use Rattle.cls_tree.specs.Jumps.{starts_from}
use Rattle.vm_model.specs.Types.{signature_of, type_of}
use Rattle.vm_model.specs.Links.{Links}
use Rattle.jv_core.specs.Tree.{Program}
use Rattle.gen_rules.specs.Classes.{class_files}
use Rattle.gen_rules.specs.Linked.{linked_program, AllLink}
use Rattle.gen_rules.proofs.Files.{only_compiled}
use Rattle.gen_rules.specs.inner.Files.{generated_classes, classes_of}
use Rattle.gen_rules.specs.examples.Hello.{hello}
use Rattle.gen_rules.specs.examples.Methods.{program}

hello_link : Links (classes_of hello) (linked_program hello (generated_classes hello 0 hello.classes))
unfolding number_of starts_from form_of signature_of type_of
hello_link = record { right = refl; program = refl }

methods_link : Links (classes_of program) (linked_program program (generated_classes program 0 program.classes))
unfolding number_of starts_from form_of signature_of type_of
methods_link = record { right = refl; program = refl }

all_link : (p : Program) → Links (classes_of p) (linked_program p (generated_classes p 0 p.classes)) → AllLink p
all_link p h all c = subst (λ cs. Links (class_files p p.classes cs) (linked_program p cs)) (sym (only_compiled p all c)) h

pub hello_links : AllLink hello
hello_links = all_link hello hello_link

pub methods_links : AllLink program
methods_links = all_link program methods_link
