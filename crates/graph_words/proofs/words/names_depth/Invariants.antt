use Rattle.std.proofs.Common.{◌≡◌, drop, map, string_bytes}
use Rattle.graph_words.specs.GraphWords.{names_depth}
use Rattle.graph_words.proofs.words.names_depth.Given as goal

abbrev pub invariant-loop-word : goal.invariant-loop-word
invariant-loop-word l = names_depth (map string_bytes (drop l.word-index l.words)) ≡ names_depth (map string_bytes l.words)
