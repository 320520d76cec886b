use Rattle.std.proofs.Common.{rules, tests, lit<}
use Rattle.std.proofs.lemmas.Iterator.Search.{all_from_yields_List}
use Rattle.std.proofs.lemmas.Iterator.Splits.{YieldsList-from_str_split}
use Rattle.api_package.specs.Package.{is_java_name}
use Rattle.api_package.proofs.package.is_package.Goals as goal

pub returns : goal.returns
returns c =
    all_from_yields_List is_java_name _ _ _ c.all.ensures.ran
    (YieldsList-from_str_split 46 c.args.word.now (lit< tt) c.split.ensures.text c.split.ensures.has_more c.split.ensures.pattern)
    (λ x b q k. search (rules, tests))
