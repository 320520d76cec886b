-- Which tags the constants of a kind have (JVMS 4.4, and 6.5 for what instructions push).
use Rattle.std.specs.Prelude.{ℕ, Bool, false, ◌==◌, ◌||◌}
use Rattle.jcf_tree.specs.declared.kind.Kind.{Kind}
use Rattle.jcf_tree.specs.declared.kind.Kind.TheVariants as kinds

abbrev pub is_of : Kind → ℕ → Bool
is_of kinds.Text tag = tag == 1
is_of kinds.Integer tag = tag == 3
is_of kinds.Float tag = tag == 4
is_of kinds.Long tag = tag == 5
is_of kinds.Double tag = tag == 6
is_of kinds.Class tag = tag == 7
is_of kinds.NameAndType tag = tag == 12
is_of kinds.Field tag = tag == 9
is_of kinds.Method tag = tag == 10
is_of kinds.InterfaceMethod tag = tag == 11
is_of kinds.AnyMethod tag = tag == 10 || tag == 11
is_of kinds.DynamicCall tag = tag == 18
is_of kinds.Loadable tag = tag == 3 || (tag == 4 || (tag == 7 || (tag == 8 || (tag == 15 || (tag == 16 || tag == 17)))))
is_of kinds.WideLoadable tag = tag == 5 || (tag == 6 || tag == 17)
is_of kinds.Nothing tag = false
