use Rattle.vm_step.proofs.step.check_built.Goals as goal

pub returns-in-Init-clause-wrong : goal.returns-in-Init-clause-wrong
returns-in-Init-clause-wrong c = rw c.in-Init.is c.check.ensures.wrong

pub returns-in-Concat-clause-wrong : goal.returns-in-Concat-clause-wrong
returns-in-Concat-clause-wrong c = rw c.in-Concat.is c.check-in-Concat.ensures.wrong

pub returns-in-Equals-clause-wrong : goal.returns-in-Equals-clause-wrong
returns-in-Equals-clause-wrong c = rw c.in-Equals.is c.check-in-Equals.ensures.wrong

pub returns-in-Out-clause-wrong : goal.returns-in-Out-clause-wrong
returns-in-Out-clause-wrong c = rw c.in-Out.is c.check-in-Out.ensures.wrong

pub returns-in-Println-clause-wrong : goal.returns-in-Println-clause-wrong
returns-in-Println-clause-wrong c = rw c.in-Println.is c.check-in-Println.ensures.wrong

pub returns-in-SendText-clause-wrong : goal.returns-in-SendText-clause-wrong
returns-in-SendText-clause-wrong c = rw c.in-SendText.is c.check-in-SendText.ensures.wrong

pub returns-in-Look-clause-wrong : goal.returns-in-Look-clause-wrong
returns-in-Look-clause-wrong c = rw c.in-Look.is c.check-in-Look.ensures.wrong
