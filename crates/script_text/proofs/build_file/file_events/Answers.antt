use Rattle.std.proofs.Common.{List, map, Result, Ok, Err, IfOk}
use Rattle.frame_grammar.specs.declared.token_kind.TokenKind.{TokenKind}
use Rattle.frame_grammar.specs.declared.symbols.Nonterminal.TheVariants.{File}
use Rattle.frame_parser.specs.declared.parser.Sentence.{Sentence}
use Rattle.frame_parser.specs.declared.parser.ParseError.{ParseError}
use Rattle.frame_parser.specs.Notes.{events_of}
use Rattle.frame_grammar.specs.Sentences.{IsOnlySentence}
use Rattle.kernel_text.specs.Marks.{kind_of}
use Rattle.kernel_raw.specs.Legible.{NamesStand}
use Rattle.kernel_raw.proofs.Derived.Names.{names_stand}
use Rattle.script_text.specs.Places.{IsFile}
use Rattle.script_text.proofs.Derivations.Files.{is_file}
use Rattle.script_text.proofs.build_file.file_events.Goals as goal

found_items : (all : List TokenKind) (result : Result Sentence ParseError)
    → IfOk result (λ found. IsOnlySentence File all found.read (events_of found.events.items))
    → IfOk result (λ found. IsFile all (events_of found.events.items))
found_items all (Ok found) is = is_file all found.read (events_of found.events.items) is
found_items all (Err e) is = tt

found_names : (all : List TokenKind) (result : Result Sentence ParseError)
    → IfOk result (λ found. IsOnlySentence File all found.read (events_of found.events.items))
    → IfOk result (λ found. NamesStand all (events_of found.events.items))
found_names all (Ok found) is = names_stand File all found.read (events_of found.events.items) is
found_names all (Err e) is = tt

pub returns-clause-items : goal.returns-clause-items
returns-clause-items c = found_items (map kind_of c.args.marks.now) c.parse.result c.parse.ensures.sentence

pub returns-clause-named : goal.returns-clause-named
returns-clause-named c = found_names (map kind_of c.args.marks.now) c.parse.result c.parse.ensures.sentence
