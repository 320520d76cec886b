-- Where a run begins: the first `static void main(String[])` of the first class of a name.
use Rattle.std.specs.Prelude.{◌≡◌, ℕ, [], Bool, Option, Some, None, replicate, ◌&&◌, codes}
use Rattle.std.specs.List.{position}
use Rattle.std.specs.Str.{bytes_eq}
use Rattle.mg_text.specs.Call.{Name}
use Rattle.vm_model.specs.Program.{Program, ClassOf, MethodOf, methods_in, class_at, method_at}
use Rattle.vm_model.specs.Machine.{Machine}
use Rattle.vm_model.specs.Tests.{max_locals_in}

abbrev pub is_main : MethodOf → Bool
is_main m = bytes_eq m.name (codes "main") && (m.is_static && bytes_eq m.descriptor (codes "([Ljava/lang/String;)V"))

-- the number of the class of this name
abbrev pub class_named : Program → Name → Option ℕ
class_named p name = position (λ c. bytes_eq c.name name) p

-- the number of `main` in a class
abbrev pub main_in : Option ClassOf → Option ℕ
main_in c = position is_main (methods_in c)

-- the program has this class, and the class has this `main`
pub record IsMain (p : Program) (name : Name) (class method : ℕ) : Type 0 where
  pub has_class : class_named p name ≡ Some class
  pub has_main : main_in (class_at p class) ≡ Some method

-- the machine of a `main`: one frame, whose locals are unset, and no objects
abbrev pub started : Program → ℕ → ℕ → Machine
started p class method = record {
  frame = record {
    class = class;
    method = method;
    place = 0;
    locals = replicate (max_locals_in (method_at p class method)) None;
    operands =
        [];
    told = None;
  };
  callers = [];
  heap = [];
}

-- where the machine of a class's `main` starts
pub record IsStart (p : Program) (name : Name) (m : Machine) : Type 0 where
  pub class : ℕ
  pub method : ℕ
  pub main : IsMain p name class method
  pub machine : m ≡ started p class method
