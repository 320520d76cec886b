-- A program that prints a text, and the bytes of its class file.
use Rattle.std.specs.Prelude.{◌≡◌, ℕ, List, [], ◌∷◌, None, codes}
use Rattle.mg_text.specs.Places.{start_of}
use Rattle.mg_text.specs.declared.place.Place.{Place}
use Rattle.cls_tree.specs.Layout.{class_bytes}
use Rattle.cls_tree.specs.Tree as file
use Rattle.jv_core.specs.declared.program.CoreType.TheVariants as types
use Rattle.jv_core.specs.declared.program.MethodKind.TheVariants as kinds
use Rattle.jv_core.specs.Tree.{Text, Print, NoStmt, Then, Class, Method, Program}
use Rattle.gen_rules.specs.Classes.{AreClasses}
use Rattle.gen_rules.specs.Linked.{AllLink}

abbrev p : Place
p = start_of 0

-- class Hello { static void main(String[] args) { System.out.println("hello"); } }
abbrev pub hello_class : Class
hello_class = record { place = p; name = 0; typestate = None; fields = []; methods = 0 ∷ [] }

abbrev pub main : Method
main = record {
  place = p;
  end = p;
  class = 0;
  name = 1;
  kind = kinds.Main;
  result = types.Void;
  params = 0;
  slots = [];
  loops = [];
  body = Then (Print p (Text p (codes "hello"))) NoStmt;
}

abbrev pub hello : Program
hello = record {
  classes = hello_class ∷ [];
  enums = [];
  methods = main ∷ [];
  typestates = [];
  names = codes "Hello" ∷ codes "main" ∷ [];
}

-- its class file, byte by byte
abbrev pub hello_bytes : List ℕ
hello_bytes =
    202 ∷ 254 ∷ 186 ∷ 190 ∷ 0 ∷ 0 ∷ 0 ∷ 49 ∷ 0 ∷ 22 ∷ 1 ∷ 0 ∷ 5 ∷ 72 ∷ 101 ∷ 108 ∷ 108 ∷ 111 ∷ 7 ∷ 0 ∷ 1 ∷ 1 ∷ 0 ∷ 16 ∷ 106 ∷
    97 ∷ 118 ∷ 97 ∷ 47 ∷ 108 ∷ 97 ∷ 110 ∷ 103 ∷ 47 ∷ 79 ∷ 98 ∷ 106 ∷ 101 ∷ 99 ∷ 116 ∷ 7 ∷ 0 ∷ 3 ∷ 1 ∷ 0 ∷ 4 ∷ 109 ∷ 97 ∷ 105 ∷
    110 ∷ 1 ∷ 0 ∷ 22 ∷ 40 ∷ 91 ∷ 76 ∷ 106 ∷ 97 ∷ 118 ∷ 97 ∷ 47 ∷ 108 ∷ 97 ∷ 110 ∷ 103 ∷ 47 ∷ 83 ∷ 116 ∷ 114 ∷ 105 ∷ 110 ∷ 103 ∷
    59 ∷ 41 ∷ 86 ∷ 1 ∷ 0 ∷ 4 ∷ 67 ∷ 111 ∷ 100 ∷ 101 ∷ 1 ∷ 0 ∷ 16 ∷ 106 ∷ 97 ∷ 118 ∷ 97 ∷ 47 ∷ 108 ∷ 97 ∷ 110 ∷ 103 ∷ 47 ∷ 83 ∷
    121 ∷ 115 ∷ 116 ∷ 101 ∷ 109 ∷ 7 ∷ 0 ∷ 8 ∷ 1 ∷ 0 ∷ 3 ∷ 111 ∷ 117 ∷ 116 ∷ 1 ∷ 0 ∷ 21 ∷ 76 ∷ 106 ∷ 97 ∷ 118 ∷ 97 ∷ 47 ∷ 105 ∷
    111 ∷ 47 ∷ 80 ∷ 114 ∷ 105 ∷ 110 ∷ 116 ∷ 83 ∷ 116 ∷ 114 ∷ 101 ∷ 97 ∷ 109 ∷ 59 ∷ 12 ∷ 0 ∷ 10 ∷ 0 ∷ 11 ∷ 9 ∷ 0 ∷ 9 ∷ 0 ∷ 12 ∷
    1 ∷ 0 ∷ 5 ∷ 104 ∷ 101 ∷ 108 ∷ 108 ∷ 111 ∷ 8 ∷ 0 ∷ 14 ∷ 1 ∷ 0 ∷ 19 ∷ 106 ∷ 97 ∷ 118 ∷ 97 ∷ 47 ∷ 105 ∷ 111 ∷ 47 ∷ 80 ∷ 114 ∷
    105 ∷ 110 ∷ 116 ∷ 83 ∷ 116 ∷ 114 ∷ 101 ∷ 97 ∷ 109 ∷ 7 ∷ 0 ∷ 16 ∷ 1 ∷ 0 ∷ 7 ∷ 112 ∷ 114 ∷ 105 ∷ 110 ∷ 116 ∷ 108 ∷ 110 ∷ 1 ∷
    0 ∷ 21 ∷ 40 ∷ 76 ∷ 106 ∷ 97 ∷ 118 ∷ 97 ∷ 47 ∷ 108 ∷ 97 ∷ 110 ∷ 103 ∷ 47 ∷ 83 ∷ 116 ∷ 114 ∷ 105 ∷ 110 ∷ 103 ∷ 59 ∷ 41 ∷ 86 ∷
    12 ∷ 0 ∷ 18 ∷ 0 ∷ 19 ∷ 10 ∷ 0 ∷ 17 ∷ 0 ∷ 20 ∷ 0 ∷ 33 ∷ 0 ∷ 2 ∷ 0 ∷ 4 ∷ 0 ∷ 0 ∷ 0 ∷ 0 ∷ 0 ∷ 1 ∷ 0 ∷ 9 ∷ 0 ∷ 5 ∷ 0 ∷ 6 ∷ 0 ∷
    1 ∷ 0 ∷ 7 ∷ 0 ∷ 0 ∷ 0 ∷ 21 ∷ 0 ∷ 2 ∷ 0 ∷ 1 ∷ 0 ∷ 0 ∷ 0 ∷ 9 ∷ 178 ∷ 0 ∷ 13 ∷ 18 ∷ 15 ∷ 182 ∷ 0 ∷ 21 ∷ 177 ∷ 0 ∷ 0 ∷ 0 ∷ 0 ∷
    0 ∷ 0 ∷ []

-- It has one class file; these are its bytes; and it links to the program that is expected.
pub record HelloIsMade : Type 0 where
  pub made : file.Class
  pub classes : AreClasses hello (made ∷ [])
  pub bytes : class_bytes made ≡ hello_bytes
  pub links : AllLink hello
