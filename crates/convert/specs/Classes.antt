-- What words of a source are to the rules, which are our own.
use Rattle.std.specs.Prelude.{ℕ, ◌+◌, ◌-◌, Bool, true, false, not, ◌==◌, ◌&&◌, if◌then◌else◌}
use Rattle.std.specs.Prelude.{List, [], ◌∷◌, ◌++◌, length, take, drop, get_or}
use Rattle.words.specs.declared.word.Word.{Word}
use Rattle.words.specs.declared.vocabulary.Kind.{Kind}
use Rattle.words.specs.declared.vocabulary.Kind.TheVariants as kinds
use Rattle.words.specs.declared.vocabulary.ReservedWord.TheVariants.{Do, End, Procedure}
use Rattle.convert.specs.declared.class.Class.{Class}
use Rattle.convert.specs.declared.class.Class.TheVariants as classes
use Rattle.convert.specs.declared.class.Opened.{Opened}
use Rattle.convert.specs.declared.class.Seen.{Seen}
use Rattle.convert.specs.Labels.{is_label_of}
use Rattle.convert.specs.Numbers.{is_name}

-- a name, a reserved word, a number, a string or a mark; of numbers that with which a text begins is another class
abbrev pub class_of_kind : Kind → Bool → Class
class_of_kind kinds.Name first = classes.Name
class_of_kind (kinds.Reserved word) first = classes.Reserved word
class_of_kind (kinds.Number value) first = if first then classes.FirstNumber else classes.Number
class_of_kind kinds.String first = classes.String
class_of_kind (kinds.Mark mark) first = classes.Mark mark

-- whether a word is a number or a string
abbrev pub is_value : Kind → Bool
is_value (kinds.Number value) = true
is_value kinds.String = true
is_value kind = false

-- What a word of a kind is, for which these words stand, and whether the text begins with it. A name that stands for a number
-- is a class of its own: where its definition has ended, it is an object.
abbrev pub class_of : List Word → Kind → Bool → Class
class_of [] kind first = classes.Several
class_of (word ∷ []) kind first =
    if is_value word.kind && not (is_value kind) then classes.Constant else class_of_kind word.kind first
class_of (word ∷ other ∷ words) kind first = classes.Several

-- how many words at the front have this start
abbrev pub count_at : ℕ → List Word → ℕ
count_at start [] = 0
count_at start (word ∷ words) = if word.start == start then 1 + count_at start words else 0

-- the last of the open blocks
abbrev pub last_block : List Opened → Opened
last_block blocks = get_or blocks (length blocks - 1) (record { inner = false; place = 0 })

-- whether words begin with a name that is no label at the end of the words before a DO
abbrev pub has_other_name : List Seen → List Word → List Word → Bool
has_other_name before [] expanded = false
has_other_name before (word ∷ words) expanded =
    is_name (class_of (take (count_at word.start expanded) expanded) word.kind false)
    && not (is_label_of before word.text.now)

-- What an END is that ends this block, after these words and before others. That of a DO that is in a block is a class
-- of its own, and so is that with a name that is no label of the DO.
abbrev pub class_of_end : Opened → List Seen → List Word → List Word → Class
class_of_end block before words expanded =
    if not block.inner then classes.Reserved End
    else if has_other_name (take block.place before) words expanded then classes.EndOfOther
    else classes.EndOfDo

-- a class, or what an END is
abbrev pub class_at_end : Class → Class → Class
class_at_end (classes.Reserved End) end = end
class_at_end class end = class

-- the open blocks after a word that ends one
abbrev pub closed : Class → List Opened → List Opened
closed classes.EndOfDo blocks = take (length blocks - 1) blocks
closed classes.EndOfOther blocks = take (length blocks - 1) blocks
closed (classes.Reserved End) blocks = take (length blocks - 1) blocks
closed class blocks = blocks

-- the open blocks after a word that begins one, with this many words before it
abbrev pub opened : Class → ℕ → List Opened → List Opened
opened (classes.Reserved Do) place [] = record { inner = false; place = place } ∷ []
opened (classes.Reserved Do) place (block ∷ blocks) =
    (block ∷ blocks) ++ record { inner = true; place = place } ∷ []
opened (classes.Reserved Procedure) place blocks = blocks ++ record { inner = false; place = place } ∷ []
opened class place blocks = blocks

-- what a word is, for which these words stand, in these blocks, after these words and before others
abbrev pub class_here : List Opened → List Seen → Word → List Word → List Word → List Word → Class
class_here blocks before word standing words expanded =
    class_at_end
    (class_of standing word.kind (length before == 0))
    (class_of_end (last_block blocks) before words expanded)

-- Words as the rules see them, where these blocks are open, after words that they see so. Of the expansion those with
-- the start of a word stand for it.
abbrev pub seen_in : List Opened → List Seen → List Word → List Word → List Seen
seen_in blocks before [] expanded = []
seen_in blocks before (word ∷ words) expanded =
    let count = count_at word.start expanded in
    let class = class_here blocks before word (take count expanded) words (drop count expanded) in
    let after = opened class (length before) (closed class blocks) in
    let here : Seen = record { class = class; word = word } in
    here ∷ seen_in after (before ++ here ∷ []) words (drop count expanded)

-- the words of a source as the rules see them
abbrev pub seen : List Word → List Word → List Seen
seen words expanded = seen_in [] [] words expanded
