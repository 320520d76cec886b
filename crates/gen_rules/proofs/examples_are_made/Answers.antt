use Rattle.gen_rules.proofs.Examples as examples
use Rattle.gen_rules.proofs.Hello as hello
use Rattle.gen_rules.proofs.examples_are_made.Goals as goal

pub returns-clause-hello : goal.returns-clause-hello
returns-clause-hello c = hello.hello_is_made

pub returns-clause-methods : goal.returns-clause-methods
returns-clause-methods c = examples.methods_are_made
