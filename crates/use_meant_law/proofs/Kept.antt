-- What is kept on the core of sources is kept on the sources.
use Rattle.std.proofs.Common.{◌≢◌, None, sym, subst}
use Rattle.jv_values.specs.Values.{Ended, Wrong}
use Rattle.jv_meaning.specs.Meaning.{mean}
use Rattle.jv_rules.specs.Program.{Program}
use Rattle.jv_core.specs.Tree as Core
use Rattle.jv_core.specs.Meaning.{main_of}
use Rattle.jv_names.specs.Laws.{MainsAreTheSame, FollowsTheSame}
use Rattle.jv_names.specs.Resolves.{Resolves}
use Rattle.jv_names.specs.KeptLaws.{CoreIsKept}
use Rattle.jv_names.specs.WholeLaws.{SourcesAreSound}
use Rattle.use_kept.specs.Laws.{KeepsTypestates}
use Rattle.use_kept.specs.Laws as on_core
use Rattle.use_meant_law.specs.Laws.{KeepsTo, SourcesKeepTypestates}
use Rattle.use_meant_law.proofs.Moments.{follows_so_far}

-- one run, which is never Wrong
kept_too : FollowsTheSame → (program : Program) (core : Core.Program) → Resolves program core → (run : Ended) → run.finish ≢ Wrong →
    on_core.KeepsTo core run → KeepsTo program run
kept_too seen program core stands run right h =
    let same = seen program core stands run.events in
    record {
      no_null = h.no_null;
      never_wrong = right;
      follows = λ so_far before. follows_so_far program.files program.typestates so_far run.events before (same.follows h.follows);
      finished = λ done. same.finished (h.finished done);
    }

-- by the law on cores, whose meaning is that of the sources
pub sources_keep : CoreIsKept → SourcesAreSound → MainsAreTheSame → FollowsTheSame → KeepsTypestates → SourcesKeepTypestates
sources_keep kept sound mains seen law program core well shaped stands reached are tables solves class has inputs budget =
    let is = kept program core well shaped stands in
    let means = sound program core stands is class inputs budget in
    let has_too : main_of core class ≢ None = λ none. has ((mains program core stands class).none_here none) in
    kept_too seen program core stands (mean program.files class inputs budget) (means.never_wrong has)
    (subst (on_core.KeepsTo core) (sym means.same) (law core is reached are tables solves class has_too inputs budget))
