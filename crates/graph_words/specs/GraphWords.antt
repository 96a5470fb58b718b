-- The words of the command that draws a frame: those of the command that runs it, and a flag `--dot`.
--
-- Decided here: which word is the flag, and which words are of the command. What the other words ask for is said of the
-- command that runs (`command_words/specs/Words`).
use Rattle.std.specs.Prelude.{◌≡◌, ◌+◌, ◌&&◌, ◌||◌, ℕ, Bool, false, not, List, [], ◌∷◌, Option, Some, None, is_some}
use Rattle.std.specs.Prelude.{codes, remove, if◌then◌else◌}
use Rattle.std.specs.List.{list_any}
use Rattle.std.specs.Option.{option_map_or}
use Rattle.std.specs.Str.{bytes_eq}
use Rattle.command_words.specs.Words.{Text, Spells, is_of_command}
use Rattle.graph_words.specs.declared.command.GraphCommand.{GraphCommand}

-- the options whose value is the next word, whatever that is
abbrev pub takes_value : Text → Bool
takes_value word = bytes_eq word (codes "--workers")
    || (bytes_eq word (codes "--gen") || bytes_eq word (codes "--jobs"))

-- whether a word that is a value, or isn't, is the flag, and whether the word after it is a value
abbrev pub is_flag : Bool → Text → Bool
is_flag value word = not value && bytes_eq word (codes "--dot")

abbrev pub awaits_value : Bool → Text → Bool
awaits_value value word = not value && takes_value word

abbrev pub flag_place_from : Bool → ℕ → List Text → Option ℕ
flag_place_from value at [] = None
flag_place_from value at (word ∷ more) = if is_flag value word then Some at
    else flag_place_from (awaits_value value word) (at + 1) more

-- the place of the first `--dot` that isn't the value of an option
abbrev pub flag_place : List Text → Option ℕ
flag_place words = flag_place_from false 0 words

-- the words without it
abbrev pub plain_words : List Text → List Text
plain_words words = option_map_or (remove words) (flag_place words) words

abbrev pub names_depth : List Text → Bool
names_depth words = list_any (λ word. bytes_eq word (codes "--depth")) words

-- The words are of the command that draws: without the flag they are of the command that runs, and ask for no depth.
abbrev pub is_of_graph : List Text → Bool
is_of_graph words = not (names_depth (plain_words words)) && is_of_command (plain_words words)

pub record SpellsGraph (words : List Text) (g : GraphCommand) : Type 0 where
  pub command : Spells (plain_words words) g.command
  pub dot : g.dot ≡ is_some (flag_place words)
