-- A word that is taken away from the list is taken away from the list of texts.
use Rattle.std.proofs.Common.{◌≡◌, ◌∙◌, ℕ, suc, List, map, take, drop, Option, Some, sym, ap}
use Rattle.std.proofs.lemmas.List.{map-append, take-map, drop-map}
use Rattle.std.specs.Prelude.{String, remove, string_bytes}
use Rattle.std.specs.Option.{option_map_or}
use Rattle.std.specs.declared.alloc.Global.{Global}
use Rattle.graph_words.specs.GraphWords.{flag_place, plain_words}
use Rattle.graph_words.proofs.words.take_flag.Goals as goal

map-remove : {X Y : Type 0} (f : X → Y) (xs : List X) (at : ℕ) → map f (remove xs at) ≡ remove (map f xs) at
map-remove f xs at = map-append f (take at xs) (drop (suc at) xs) ∙ simp (take-map, drop-map)

removed : (words : List (String Global)) (at : ℕ) → flag_place (map string_bytes words) ≡ Some at
    → map string_bytes (remove words at) ≡ plain_words (map string_bytes words)
removed words at e = map-remove string_bytes words at
    ∙ sym (ap (λ o. option_map_or (remove (map string_bytes words)) o (map string_bytes words)) e)

pub returns-in-Some-clause-taken : goal.returns-in-Some-clause-taken
returns-in-Some-clause-taken c =
    let e : flag_place (map string_bytes c.args.words.now.items) ≡ Some c.in-Some.at = sym (rw c.deref.ensures.value at c.in-Some.ensures.place) in
    ap (λ ws. map string_bytes ws) c.remove.ensures.items ∙ removed c.args.words.now.items c.in-Some.at e
