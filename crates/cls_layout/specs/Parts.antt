-- The parts of a class file (JVMS chapter 4): how many bytes each takes, and which parts its number brings.
use Rattle.std.specs.Prelude.{ℕ, zero, suc, ◌+◌, ◌-◌, List, [], ◌∷◌, Bool, true, false, ◌==◌, ◌||◌, ◌&&◌, not, replicate, if◌then◌else◌}
use Rattle.cls_layout.specs.declared.format.Part.{Part}
use Rattle.cls_layout.specs.declared.format.Part.TheVariants as parts

abbrev pub size : Part → ℕ
size parts.Magic = 4
size parts.Minor = 2
size parts.Major = 2
size parts.PoolCount = 2
size parts.Tag = 1
size parts.TextLength = 2
size (parts.Letters n) = n
size parts.Int = 4
size (parts.Reference tag) = 2
size parts.Number = 2
size parts.Interfaces = 2
size (parts.MemberCount are_methods) = 2
size (parts.Member is_method) = 2
size (parts.AttributeCount of_method) = 2
size parts.AttributeName = 2
size (parts.MethodAttribute left seen) = 2
size parts.OtherLength = 4
size (parts.Unread n) = n
size parts.CodeLength = 4
size parts.CodeSize = 4
size (parts.Code n) = n
size parts.Handlers = 2
size (parts.ContentEnd from length) = 0
size parts.End = 0

-- a class file: magic, version, the pool, access, this and super class, no interfaces, fields, methods and attributes
abbrev pub whole : List Part
whole =
    parts.Magic ∷ parts.Minor ∷ parts.Major ∷ parts.PoolCount ∷ parts.Number ∷ parts.Reference 7 ∷ parts.Reference 7 ∷ parts.Interfaces
    ∷ parts.MemberCount false ∷ parts.MemberCount true ∷ parts.AttributeCount false ∷ parts.End ∷ []

-- what a constant with this tag holds: texts, ints, classes, texts to push, fields, methods, names with descriptors
abbrev pub holds : ℕ → List Part
holds tag =
    if tag == 1 then parts.TextLength ∷ []
    else if tag == 3 then parts.Int ∷ []
    else if tag == 7 then parts.Reference 1 ∷ []
    else if tag == 8 then parts.Reference 1 ∷ []
    else if tag == 9 then parts.Reference 7 ∷ parts.Reference 12 ∷ []
    else if tag == 10 then parts.Reference 7 ∷ parts.Reference 12 ∷ []
    else if tag == 12 then parts.Reference 1 ∷ parts.Reference 1 ∷ []
    else []

abbrev pub is_tag : ℕ → Bool
is_tag tag = tag == 1 || (tag == 3 || (tag == 7 || (tag == 8 || (tag == 9 || (tag == 10 || tag == 12)))))

-- the attributes of a method that are left, where code was seen or not
abbrev pub attributes_left : ℕ → Bool → List Part
attributes_left zero seen = []
attributes_left (suc left) seen = parts.MethodAttribute left seen ∷ []

-- what an attribute of a method holds: code is that so named
abbrev pub attribute_holds : ℕ → Bool → Bool → List Part
attribute_holds left seen true = parts.CodeLength ∷ attributes_left left true
attribute_holds left seen false = parts.OtherLength ∷ attributes_left left seen

-- what a code holds: two numbers, the code behind its size, handlers and attributes, up to its length
abbrev pub content : ℕ → ℕ → List Part
content from length = parts.Number ∷ parts.Number ∷ parts.CodeSize ∷ parts.Handlers ∷ parts.AttributeCount false ∷ parts.ContentEnd from
    length ∷ []

-- what is due behind a part at this place in which this number stands; named is whether it is the number of the name of code
abbrev pub brings : Part → ℕ → ℕ → Bool → List Part
brings parts.Magic at n named = []
brings parts.Minor at n named = []
brings parts.Major at n named = []
brings parts.PoolCount at n named = replicate (n - 1) parts.Tag
brings parts.Tag at n named = holds n
brings parts.TextLength at n named = parts.Letters n ∷ []
brings (parts.Letters len) at n named = []
brings parts.Int at n named = []
brings (parts.Reference tag) at n named = []
brings parts.Number at n named = []
brings parts.Interfaces at n named = []
brings (parts.MemberCount are_methods) at n named = replicate n (parts.Member are_methods)
brings (parts.Member is_method) at n named = parts.Reference 1 ∷ parts.Reference 1 ∷ parts.AttributeCount is_method ∷ []
brings (parts.AttributeCount true) at n named = attributes_left n false
brings (parts.AttributeCount false) at n named = replicate n parts.AttributeName
brings parts.AttributeName at n named = parts.OtherLength ∷ []
brings (parts.MethodAttribute left seen) at n named = attribute_holds left seen named
brings parts.OtherLength at n named = parts.Unread n ∷ []
brings (parts.Unread len) at n named = []
brings parts.CodeLength at n named = content (at + 4) n
brings parts.CodeSize at n named = parts.Code n ∷ []
brings (parts.Code len) at n named = []
brings parts.Handlers at n named = []
brings (parts.ContentEnd from length) at n named = []
brings parts.End at n named = []

-- whether nothing can be laid out behind a part: a tag that is none, interfaces, handlers, and a second code of a method
abbrev pub ends_row : Part → ℕ → Bool → Bool
ends_row parts.Tag n named = not (is_tag n)
ends_row parts.Interfaces n named = not (n == 0)
ends_row parts.Handlers n named = not (n == 0)
ends_row (parts.MethodAttribute left seen) n named = seen && named
ends_row part n named = false
