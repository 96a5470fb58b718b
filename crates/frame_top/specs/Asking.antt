-- The command that the words spell.
use Rattle.std.specs.Prelude.{◌≡◌, true, ℕ, List, Option, option_map, Vec}
use Rattle.std.specs.declared.alloc.Global.{Global}
use Rattle.command_words.specs.declared.command.Command.{Command}
use Rattle.command_words.specs.Words.{Text, Spells, is_of_command}

-- The words are of the command, and this is the one that they spell.
pub record IsAsked (words : List Text) (command : Command) : Type 0 where
  pub of_command : is_of_command words ≡ true
  pub spelled : Spells words command

-- the bytes of a table, where there is one
abbrev pub bytes_in : Option (Vec ℕ Global) → Option Text
bytes_in table = option_map (λ v. v.items) table
