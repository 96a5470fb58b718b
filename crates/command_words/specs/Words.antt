-- What the words of the command spell, and which words are of the command.
--
-- Decided here: what one word is, what the words are from left to right, the rules by which they are accepted, and the
-- command that they spell.
-- Nothing here speaks of `clap`. What the code has seen of the words is in `Seen`, and what `clap` finds in `Found`.
use Rattle.std.specs.Prelude.{◌≡◌, ◌==◌, ◌&&◌, ℕ, Bool, true, false, not, List, [], ◌∷◌, ◌++◌}
use Rattle.std.specs.Prelude.{length, Option, Some, None, is_none, if◌then◌else◌, nat_le}
use Rattle.std.specs.Prelude.{codes, find, fold, option_map, string_bytes}
use Rattle.std.specs.Char.{is_ascii_digit}
use Rattle.std.specs.List.{list_all, list_any}
use Rattle.std.specs.Option.{option_map_or}
use Rattle.std.specs.Str.{bytes_eq}
use Rattle.std.specs.Str.Parse.{digits_value}
use Rattle.job_base.specs.declared.limits.TheConstants.{MOST_WORKERS, MOST_SEED, MOST_GENERATED_JOBS}
use Rattle.command_words.specs.declared.place.Place.{Place}
use Rattle.command_words.specs.declared.place.Place.TheVariants.{Workers, Number, Jobs, Depth, Script, Table}
use Rattle.command_words.specs.declared.command.Command.{Command}
use Rattle.command_words.specs.declared.command.Command.TheVariants.{Run, Gen}

abbrev pub Text : Type 0
Text = List ℕ

-- WHAT ONE WORD IS, WHERE NO OPTION WAITS FOR ITS VALUE

pub data Spelling : Type 0 where
  awaits : Place → Spelling
  gives : Place → Text → Spelling
  flag : Spelling
  positional : Spelling

-- what follows the prefix, where the word begins with it
abbrev pub after_prefix : Text → Text → Option Text
after_prefix [] word = Some word
after_prefix (c ∷ prefix) [] = None
after_prefix (c ∷ prefix) (x ∷ word) = if x == c then after_prefix prefix word else None

-- the option's name, or its name, `=` (61) and the value; else as `other` says
abbrev pub option_or : Place → Text → Text → Spelling → Spelling
option_or place name word other = if bytes_eq word name then awaits place
    else option_map_or (gives place) (after_prefix (name ++ 61 ∷ []) word) other

abbrev pub flag_or_positional : Text → Spelling
flag_or_positional word = if bytes_eq word (codes "--depth") then flag else positional

abbrev pub spelling : Text → Spelling
spelling word = option_or Workers (codes "--workers") word
    (option_or Number (codes "--gen") word
    (option_or Jobs (codes "--jobs") word (flag_or_positional word)))

-- WHAT THE WORDS ARE, FROM LEFT TO RIGHT

abbrev pub Item : Type 0
Item = Place × Text

abbrev pub same_place : Place → Place → Bool
same_place Workers Workers = true
same_place Number Number = true
same_place Jobs Jobs = true
same_place Depth Depth = true
same_place Script Script = true
same_place Table Table = true
same_place _ _ = false

abbrev pub has : Place → List Item → Bool
has place = list_any (λ i. same_place i.0 place)

-- the text that stands at a place, where something does
abbrev pub text_at : Place → List Item → Option Text
text_at place items = option_map (λ i. i.1) (find (λ i. same_place i.0 place) items)

-- what was read so far, and the option that the next word is the value of
pub record Reading : Type 0 where
  pub items : List Item
  pub waiting : Option Place

-- the first positional is SCRIPT, and each later one is a TABLE
abbrev pub positional_place : List Item → Place
positional_place items = if has Script items then Table else Script

abbrev pub put : Place → Text → Reading → Reading
put place text r = record { items = r.items ++ (place, text) ∷ []; waiting = None }

abbrev pub read_as : Spelling → Text → Reading → Reading
read_as (awaits place) word r = record { items = r.items; waiting = Some place }
read_as (gives place value) word r = put place value r
read_as flag word r = put Depth [] r
read_as positional word r = put (positional_place r.items) word r

abbrev pub read_where : Option Place → Text → Reading → Reading
read_where (Some place) word r = put place word r
read_where None word r = read_as (spelling word) word r

unfoldable pub read_word : Reading → Text → Reading
read_word r word = read_where r.waiting word r

abbrev pub nothing_read : Reading
nothing_read = record { items = []; waiting = None }

abbrev pub reading : List Text → Reading
reading words = fold read_word nothing_read words

-- THE RULES

-- 1 to 20 decimal digits
abbrev pub is_decimal : Text → Bool
is_decimal text = nat_le 1 (length text) && (nat_le (length text) 20 && list_all is_ascii_digit text)

abbrev pub number : Text → ℕ
number = digits_value 10

abbrev pub is_name : Text → Bool
is_name [] = false
is_name (x ∷ rest) = not (x == 45)

abbrev pub is_number_in : ℕ → ℕ → Text → Bool
is_number_in least most text = is_decimal text && (nat_le least (number text) && nat_le (number text) most)

-- what may stand at a place
unfoldable pub fits : Place → Text → Bool
fits Workers text = is_number_in 1 MOST_WORKERS text
fits Number text = is_number_in 0 MOST_SEED text
fits Jobs text = is_number_in 1 MOST_GENERATED_JOBS text
fits Depth text = true
fits Script text = is_name text
fits Table text = is_name text

-- no place is taken twice
abbrev pub is_distinct : List Item → Bool
is_distinct [] = true
is_distinct (i ∷ rest) = not (has i.0 rest) && is_distinct rest

abbrev pub all_fit : List Item → Bool
all_fit = list_all (λ i. fits i.0 i.1)

-- SCRIPT without `--gen` and `--jobs`, or these two without SCRIPT
abbrev pub is_whole : List Item → Bool
is_whole items = if has Number items then has Jobs items && not (has Script items)
    else has Script items && not (has Jobs items)

abbrev pub is_accepted : Reading → Bool
is_accepted r = is_none r.waiting && (all_fit r.items && (is_distinct r.items && is_whole r.items))

-- the words are of the command
abbrev pub is_of_command : List Text → Bool
is_of_command words = is_accepted (reading words)

-- THE COMMAND THAT THE WORDS SPELL

abbrev pub workers_of : List Item → ℕ
workers_of items = option_map_or number (text_at Workers items) 4

abbrev pub SpellsItems : List Item → Command → Type 0
SpellsItems items (Run workers script table depth) = (has Number items ≡ false)
    × (workers ≡ workers_of items)
    × (text_at Script items ≡ Some (string_bytes script))
    × (text_at Table items ≡ option_map string_bytes table)
    × (depth ≡ has Depth items)
SpellsItems items (Gen workers given jobs depth) = (option_map number (text_at Number items) ≡ Some given)
    × (workers ≡ workers_of items)
    × (option_map number (text_at Jobs items) ≡ Some jobs)
    × (depth ≡ has Depth items)

abbrev pub Spells : List Text → Command → Type 0
Spells words command = SpellsItems (reading words).items command
