-- What a file has, as it is found on one way through the text.
use Rattle.std.specs.Prelude.{ℕ, ◌+◌, Bool, true, false, List, [], ◌∷◌, max}
use Rattle.std.specs.Str.{bytes_eq}
use Rattle.mg_text.specs.Call.{Name}
use Rattle.scr_tree.specs.Tree.{Statements, Nothing, Says, Choice, Rec, Continue, Do, Branches, NoBranch, Branch, Titled, LocalTree, titled}
use Rattle.stm_client.specs.declared.points.Survey.{Survey}
use Rattle.stm_client.specs.Counting.{own_choices, deeper, deepest_of_all, any_goes_on}

-- what a file has
abbrev pub survey_of : LocalTree → Survey
survey_of local = record {
  own = own_choices local.me 0 (titled local);
  levels = deepest_of_all local.me (titled local);
  goes_on = any_goes_on (titled local);
}

abbrev pub nothing_yet : Survey
nothing_yet = record { own = 0; levels = 0; goes_on = false }

-- one more own choice
abbrev pub counted : Bool → Survey → Survey
counted true s = record { own = s.own + 1; levels = s.levels; goes_on = s.goes_on }
counted false s = s

abbrev pub seen : ℕ → Survey → Survey
seen level s = record { own = s.own; levels = max s.levels level; goes_on = s.goes_on }

abbrev pub going_on : Survey → Survey
going_on s = record { own = s.own; levels = s.levels; goes_on = true }

abbrev mutual
  pub survey : Name → ℕ → Survey → Statements → Survey
  survey me level s Nothing = s
  survey me level s (Says m rest) = survey me level s rest
  survey me level s (Choice place by branches rest) =
      survey me level (survey_in me (bytes_eq by me) level (counted (bytes_eq by me) s) branches) rest
  survey me level s (Rec place name body rest) = survey me level (survey me level s body) rest
  survey me level s (Continue place name rest) = survey me level s rest
  survey me level s (Do place name rest) = survey me level (going_on s) rest

  pub survey_in : Name → Bool → ℕ → Survey → Branches → Survey
  survey_in me own level s NoBranch = s
  survey_in me own level s (Branch b more) =
      survey_in me own (deeper own level) (survey me (deeper own level) (seen (deeper own level) s) b) more

-- of all protocols of a file
abbrev pub survey_all : Name → Survey → List Titled → Survey
survey_all me s [] = s
survey_all me s (t ∷ ts) = survey_all me (survey me 0 s t.body) ts
