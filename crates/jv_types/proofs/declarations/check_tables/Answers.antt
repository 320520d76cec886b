use Rattle.std.proofs.Common.{sym, ap, ◌∙◌, option_map}
use Rattle.jv_types.specs.inner.Deciding.{found_of}
use Rattle.jv_types.proofs.declarations.check_tables.Goals as goal

pub returns-in-Some-clause-fault : goal.returns-in-Some-clause-fault
returns-in-Some-clause-fault c =
    record {
      entries = c.classes.result.now;
      classes = c.classes.ensures.classes;
      each = c.classes.ensures.entries;
      is =
          sym (ap (option_map found_of) c.in-Some.is) ∙ c.in_ok-found.ensures;
    }

pub returns-in-None-clause-fine : goal.returns-in-None-clause-fine
returns-in-None-clause-fine c =
    record {
      entries = c.classes.result.now;
      classes = c.classes.ensures.classes;
      each = c.classes.ensures.entries;
      is =
          sym (ap (option_map found_of) c.in-None.is) ∙ c.in_ok-found.ensures;
    }
