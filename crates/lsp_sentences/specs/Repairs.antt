-- What to do about faults, by their kinds: @ stands for what is named, and # for the state that is.
use Rattle.std.specs.Prelude.{List, [], ◌∷◌, ◌++◌, codes}
use Rattle.mg_text.specs.Call.{Name}

-- of texts: their bytes, and their grammar
abbrev pub of_texts : List (Name × Name)
of_texts =
    (codes "TooLarge", codes "part it into smaller files, or make one state of those that offer the same") ∷
    (codes "BadByte", codes "delete this byte, or close the comment, text or name that begins here, and save the file as UTF-8") ∷
    (codes "Unsupported", codes "write it otherwise: docs/LANGUAGE.md has what stands in its place") ∷
    (codes "Syntax", codes "mend this token or the one before it: docs/LANGUAGE.md has the grammar") ∷
    (codes "OpenComment", codes "close it by */, or begin each of its lines by //") ∷
    (codes "OpenText", codes "close it in its line, and write \\n for a line feed in it") ∷
    (codes "BadEscape", codes "write the character itself, since sources are UTF-8") ∷
    (codes "BadNumber", codes "count in whole numbers, as cents for money and thousandths for a rate") ∷
    []

-- of protocols: what they declare and name
abbrev pub of_protocols : List (Name × Name)
of_protocols =
    (codes "DuplicateName", codes "rename or drop one, and keep what translate wrote in another folder than its .scr file") ∷
    (codes "UnknownRole", codes "list @ there, or name a role that is listed") ∷
    (codes "PeerIsSelf", codes "name the other role, to which the message goes or from which it comes") ∷
    (codes "UnknownType", codes "carry an int, a boolean or a String, or declare @ as one of them") ∷
    (codes "PayloadCount", codes "send each value by a message of its own") ∷
    (codes "UnknownProtocol", codes "name a protocol of the file, or write @ into it") ∷
    (codes "DuplicateProtocol", codes "give the second another name") ∷
    (codes "RolesDiffer", codes "write at the same role as the first protocol, list the roles as it does, and name them in that order behind do") ∷
    (codes "NotLast", codes "move what stands behind into the branches that come there") ∷
    (codes "StartsWithDo", codes "put a protocol that begins so in front of @") ∷
    (codes "SameRole", codes "move one of them into a folder of its own") ∷
    []

-- of the ways that protocols go
abbrev pub of_courses : List (Name × Name)
of_courses =
    (codes "UnknownRec", codes "name a rec that stands around this continue, or put rec @ around it") ∷
    (codes "DuplicateRec", codes "give the inner one another name") ∷
    (codes "Unguarded", codes "put a message on the way there") ∷
    (codes "Unreachable", codes "delete it, or end the loop before it by a choice: one branch goes on, the other has this") ∷
    (codes "BranchStart", codes "begin this branch by one that tells which branch it is, as bye() where nothing is left to do") ∷
    (codes "MixedChoice", codes "name the role behind choice at that sends the first messages of all branches") ∷
    (codes "SameLabel", codes "give each branch a label of its own") ∷
    (codes "ReservedLabel", codes "give the message another label") ∷
    (codes "NameClash", codes "change a label in the protocol, since a call is named after label, payload and role") ∷
    (codes "TooManyStates", codes "write what repeats once, in a rec") ∷
    []

-- of typestates
abbrev pub of_typestates : List (Name × Name)
of_typestates =
    (codes "DuplicateState", codes "rename one, or put the methods of both into one") ∷
    (codes "UnknownState", codes "add @ to it, or mend the name: the finished state is written end") ∷
    (codes "DuplicateMethod", codes "delete one of them, or give it another name") ∷
    (codes "SignatureDiffers", codes "write @ with one result and the same types of parameters everywhere") ∷
    (codes "DuplicateLabel", codes "list each constant of the enum once") ∷
    (codes "ReservedEnd", codes "delete it here, or give the state another name where it offers a method") ∷
    []

-- of classes and their members
abbrev pub of_members : List (Name × Name)
of_members =
    (codes "DuplicateMember", codes "rename one of them") ∷
    (codes "UnknownClass", codes "put the file of @ into this folder, and where it is a class name its typestate in front of it") ∷
    (codes "UnknownTypestate", codes "put the file of @ into this folder, or mend the name in front of the class") ∷
    (codes "MissingMethod", codes "write @ into the class, without static") ∷
    (codes "LabelsDiffer", codes "answer with an enum, and list each of its constants behind @ with the state to which it leads") ∷
    (codes "FieldNeedsValue", codes "give @ a constant, and assign in a method what is none") ∷
    (codes "InstanceInPlain", codes "hand on as a parameter what a field would hold") ∷
    []

-- of the bodies of methods
abbrev pub of_bodies : List (Name × Name)
of_bodies =
    (codes "UnknownName", codes "declare @ where all of its uses see it, or mend the name") ∷
    (codes "DuplicateLocal", codes "give the second variable another name") ∷
    (codes "TypeMismatch", codes "write a value of that type, as the test i == 1 in the place of the number i") ∷
    (codes "Arity", codes "give each parameter one argument") ∷
    (codes "BadLabel", codes "leave a method by return and a loop by break, and list each constant of the enum in one case") ∷
    (codes "MissingReturn", codes "return a value on each way to the end") ∷
    (codes "SelfCall", codes "put what both do into a helper, which the typestate does not name") ∷
    (codes "ThisAsValue", codes "hand on what the other needs: a number, a text, or an object that a field holds") ∷
    (codes "ArgsMayMove", codes "call the helper first, and hand on what it gave") ∷
    []

-- of usages
abbrev pub of_usages : List (Name × Name)
of_usages =
    (codes "UseMoved", codes "go on with the variable that has the object now, or have the method give it back as its result") ∷
    (codes "MaybeNull", codes "make the test in the if or while itself, since one that a boolean keeps tells nothing") ∷
    (codes "NotOffered", codes "call first what leads to a state that offers it, or delete the call; behind the end make a new object") ∷
    (codes "LeftOpen", codes "finish the object on each way out, or hand it on; in a typestate of your own # may have drop: end") ∷
    (codes "Overwritten", codes "finish the first object, or hand it on, before @ gets another") ∷
    (codes "FieldOpenAtEnd", codes "finish what @ holds in the method that finishes the object, or after which it may be left") ∷
    []

abbrev pub repairs : List (Name × Name)
repairs = of_texts ++ (of_protocols ++ (of_courses ++ (of_typestates ++ (of_members ++ (of_bodies ++ of_usages)))))
