-- Sources mean the same as their core, which is never Wrong where a class has `main`.
use Rattle.std.proofs.Common.{◌≡◌, ◌≢◌, None, sym, ap, ◌∙◌}
use Rattle.jv_values.specs.Values.{Wrong}
use Rattle.jv_meaning.specs.Meaning.{mean}
use Rattle.jv_core.specs.Meaning.{main_of, cmean}
use Rattle.jv_names.proofs.Main.{mains_are_the_same, means_the_same}
use Rattle.jv_sound.proofs.Sound.{never_wrong}
use Rattle.jv_names.proofs.Kept.{core_is_kept}
use Rattle.jv_names.specs.WholeLaws.{SourcesAreSound, TypesAreEnough}

pub sources_are_sound : SourcesAreSound
sources_are_sound program core res ok class inputs budget = record {
  same = same;
  never_wrong = λ has wrong. core_has (λ none. has ((mains_are_the_same program core res class).none_here none))
      (ap (λ ended. ended.finish) (sym same) ∙ wrong);
}
  where
    core_has : main_of core class ≢ None → (cmean core class inputs budget).finish ≢ Wrong
    core_has has = never_wrong core ok class has inputs budget

    same : mean program.files class inputs budget ≡ cmean core class inputs budget
    same = means_the_same program core res class inputs budget core_has

pub types_are_enough : TypesAreEnough
types_are_enough program core well shaped res class inputs budget =
    sources_are_sound program core res (core_is_kept program core well shaped res) class inputs budget
