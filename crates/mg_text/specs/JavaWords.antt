-- The words that Java reserves.
use Rattle.std.specs.Prelude.{List, [], ◌∷◌, codes}
use Rattle.mg_text.specs.Call.{Name}

-- those that the sources here may use, and then those that they may not
abbrev pub java_words : List Name
java_words =
    codes "boolean" ∷
    codes "break" ∷
    codes "case" ∷
    codes "class" ∷
    codes "continue" ∷
    codes "default" ∷
    codes "do" ∷
    codes "else" ∷
    codes "enum" ∷
    codes "final" ∷
    codes "if" ∷
    codes "import" ∷
    codes "int" ∷
    codes "new" ∷
    codes "package" ∷
    codes "private" ∷
    codes "protected" ∷
    codes "public" ∷
    codes "return" ∷
    codes "static" ∷
    codes "switch" ∷
    codes "this" ∷
    codes "void" ∷
    codes "while" ∷
    codes "true" ∷
    codes "false" ∷
    codes "null" ∷
    codes "abstract" ∷
    codes "assert" ∷
    codes "byte" ∷
    codes "catch" ∷
    codes "char" ∷
    codes "const" ∷
    codes "double" ∷
    codes "extends" ∷
    codes "finally" ∷
    codes "float" ∷
    codes "for" ∷
    codes "goto" ∷
    codes "implements" ∷
    codes "instanceof" ∷
    codes "interface" ∷
    codes "long" ∷
    codes "native" ∷
    codes "short" ∷
    codes "strictfp" ∷
    codes "super" ∷
    codes "synchronized" ∷
    codes "throw" ∷
    codes "throws" ∷
    codes "transient" ∷
    codes "try" ∷
    codes "volatile" ∷
    []
