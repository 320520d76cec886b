-- The sentences on faults, by their kinds: @ stands for what is named, and # for the state that is.
use Rattle.std.specs.Prelude.{List, [], ◌∷◌, ◌++◌, codes}
use Rattle.mg_text.specs.Call.{Name}

-- of texts: their bytes, and their grammar
abbrev pub of_texts : List (Name × Name)
of_texts =
    (codes "TooLarge", codes "the file has over 1,048,576 bytes, or a typestate over 1,000 states") ∷
    (codes "BadByte", codes "no token begins here, a comment, text or name has no end, or the file is not UTF-8") ∷
    (codes "Unsupported", codes "@ belongs to the language, but is not supported here") ∷
    (codes "Syntax", codes "the text does not follow the grammar") ∷
    (codes "OpenComment", codes "the comment has no */") ∷
    (codes "OpenText", codes "the text has no closing quote in its line") ∷
    (codes "BadEscape", codes "known escapes are \\b \\t \\n \\f \\r \\\" \\' and \\\\") ∷
    (codes "BadNumber", codes "a number is decimal, whole, without leading zeros, and at most 2147483647") ∷
    []

-- of protocols: what they declare and name
abbrev pub of_protocols : List (Name × Name)
of_protocols =
    (codes "DuplicateName", codes "@ is there twice (or is a name that is taken: Object, String, System, PrintStream, Session)") ∷
    (codes "UnknownRole", codes "the header does not list the role @") ∷
    (codes "PeerIsSelf", codes "a role does not send to itself") ∷ (
      codes "UnknownType",
      codes "@ is not declared; int, boolean and String are, and a declaration is of java.lang.Integer, Boolean or String",
    ) ∷
    (codes "PayloadCount", codes "a message carries one value at most") ∷
    (codes "UnknownProtocol", codes "no protocol of the file has the name @") ∷
    (codes "DuplicateProtocol", codes "two protocols of the file have the name @") ∷ (
      codes "RolesDiffer",
      codes "all protocols of a file are of one role and list the same roles in one order, and each do names them all in it",
    ) ∷
    (codes "NotLast", codes "the do of @ leaves what stands around it, so nothing stands behind the choice or rec that holds it") ∷
    (codes "StartsWithDo", codes "the first protocol of the file, @, begins with a message or a choice") ∷
    (codes "SameRole", codes "two files of the command are of the role @") ∷
    []

-- of the ways that protocols go
abbrev pub of_courses : List (Name × Name)
of_courses =
    (codes "UnknownRec", codes "continue @ stands outside of rec @") ∷
    (codes "DuplicateRec", codes "rec @ stands inside another rec @") ∷
    (codes "Unguarded", codes "from rec @ to continue @ no message is passed: the loop would do nothing") ∷
    (codes "Unreachable", codes "nothing comes to this statement: the one before it never goes on") ∷
    (codes "BranchStart", codes "each branch of a choice begins with a message") ∷ (
      codes "MixedChoice",
      codes "the branches begin with sends where the role itself chooses, with receives from the one role that chooses elsewhere",
    ) ∷
    (codes "SameLabel", codes "two branches begin with @, so they cannot be told apart") ∷
    (codes "ReservedLabel", codes "@ is a word that Java reserves, so it cannot be a constant of an enum") ∷
    (codes "NameClash", codes "two different messages would both be called @ in Java: rename one") ∷
    (codes "TooManyStates", codes "the protocol has over 1,000 states") ∷
    []

-- of typestates
abbrev pub of_typestates : List (Name × Name)
of_typestates =
    (codes "DuplicateState", codes "the state @ is there twice") ∷
    (codes "UnknownState", codes "the typestate has no state @") ∷
    (codes "DuplicateMethod", codes "the state has @ twice") ∷
    (codes "SignatureDiffers", codes "@ has another result or other parameters elsewhere: in another state, or in the class") ∷
    (codes "DuplicateLabel", codes "the label @ is there twice") ∷
    (codes "ReservedEnd", codes "end is the finished state, and cannot be declared") ∷
    []

-- of classes and their members
abbrev pub of_members : List (Name × Name)
of_members =
    (codes "DuplicateMember", codes "@ is there twice in its class or enum") ∷
    (codes "UnknownClass", codes "no file of the command has a class @ with a typestate, or an enum @ (was a file left out?)") ∷
    (codes "UnknownTypestate", codes "no file of the command has the typestate @ (was its .protocol left out?)") ∷
    (codes "MissingMethod", codes "the typestate names @, and the class has no such instance method") ∷ (
      codes "LabelsDiffer",
      codes "the answers of @ in the typestate are not the constants of its enum (a boolean has none: give @ an enum)",
    ) ∷
    (codes "FieldNeedsValue", codes "the field @ needs a constant as its first value") ∷
    (codes "InstanceInPlain", codes "a class without a typestate has static methods alone: write static, or give it a typestate") ∷
    []

-- of the bodies of methods
abbrev pub of_bodies : List (Name × Name)
of_bodies =
    (codes "UnknownName", codes "@ names nothing here: no variable, class or method that can be used") ∷
    (codes "DuplicateLocal", codes "@ is already the name of a variable here") ∷
    (codes "TypeMismatch", codes "the value has another type than is wanted here") ∷
    (codes "Arity", codes "the number of arguments is not that of the parameters") ∷
    (codes "BadLabel", codes "break or continue has no such target, or a case no such constant, or is there twice") ∷
    (codes "MissingReturn", codes "the method can come to its end without a return") ∷
    (codes "SelfCall", codes "@ belongs to the typestate, so an object does not call it on itself") ∷
    (codes "ThisAsValue", codes "this stands before .name alone") ∷
    (codes "ArgsMayMove", codes "an argument of this call on the field @ calls a helper, which may change the field") ∷
    []

-- of usages
abbrev pub of_usages : List (Name × Name)
of_usages =
    (codes "UseMoved", codes "the object of @ may have been handed on before: as an argument, by an assignment, or as a result") ∷
    (codes "MaybeNull", codes "@ may hold null here: test it with if (@ != null)") ∷
    (codes "NotOffered", codes "the object of @ may be in # here, which does not offer this method") ∷
    (codes "LeftOpen", codes "the object of @ may be in # here, and is dropped before it is finished") ∷
    (codes "Overwritten", codes "@ may hold an object in # here, which the assignment loses before it is finished") ∷
    (codes "FieldOpenAtEnd", codes "the object is finished here, or may be left, while its field @ may hold one in #, which may not") ∷
    []

abbrev pub sentences : List (Name × Name)
sentences = of_texts ++ (of_protocols ++ (of_courses ++ (of_typestates ++ (of_members ++ (of_bodies ++ (of_usages))))))
