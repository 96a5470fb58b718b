use Rattle.std.proofs.Common.{◌≡◌, drop, map, string_bytes}
use Rattle.graph_words.specs.GraphWords.{flag_place, flag_place_from}
use Rattle.graph_words.proofs.words.flag_place.Given as goal

abbrev pub invariant-loop-at : goal.invariant-loop-at
invariant-loop-at l = flag_place_from l.value l.at (map string_bytes (drop l.at l.words)) ≡ flag_place (map string_bytes l.words)
