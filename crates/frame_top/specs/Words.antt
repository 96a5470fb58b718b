-- What the words of a command line ask for.
use Rattle.std.specs.Prelude.{ℕ, Bool, List, map, Option, None, Some, String, string_bytes}
use Rattle.std.specs.declared.alloc.Global.{Global}
use Rattle.command_words.specs.Words.{Text, Item, reading, has, text_at, number, workers_of}
use Rattle.command_words.specs.declared.place.Place.TheVariants.{Number, Jobs, Depth, Script, Table}
use Rattle.script_gen.specs.Scripts.{script_text}

-- the words as bytes
abbrev pub bytes_of : List (String Global) → List Text
bytes_of words = map string_bytes words

abbrev pub items_of : List Text → List Item
items_of words = (reading words).items

abbrev pub workers_in : List Text → ℕ
workers_in words = workers_of (items_of words)

abbrev pub asks_depth : List Text → Bool
asks_depth words = has Depth (items_of words)

-- the script that two numbers make
abbrev pub made_by : Option Text → Option Text → Option Text
made_by (Some seed) (Some jobs) = Some (script_text (number seed) (number jobs))
made_by _ _ = None

-- the script that `--gen` and `--jobs` make
abbrev pub made_text : List Text → Option Text
made_text words = made_by (text_at Number (items_of words)) (text_at Jobs (items_of words))

-- the name of the script's file
abbrev pub script_name : List Text → Option Text
script_name words = text_at Script (items_of words)

-- A script that is made has no table.
abbrev pub table_by : Option Text → Option Text → Option Text
table_by (Some text) name = None
table_by None name = name

-- the name of the table's file
abbrev pub table_name : List Text → Option Text
table_name words = table_by (made_text words) (text_at Table (items_of words))
