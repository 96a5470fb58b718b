-- The texts of known names.
use Rattle.std.proofs.Common.{◌≡◌, ℕ, ◌<◌, ◌≤◌, List, length, map, take, get_or, take_all, sym, ◌∙◌, ap, subst, IsUtf8}
use Rattle.std.specs.Prelude.{All}
use Rattle.std.proofs.lemmas.List.{length-map}
use Rattle.std.proofs.lemmas.Simd.{map-map}
use Rattle.std.proofs.lemmas.List.{get_or-map}
use Rattle.std.proofs.lemmas.List.Elements.{All-get_or}
use Rattle.script_names.specs.declared.names.Entry.{Entry}
use Rattle.script_names.specs.Names.{Name}
use Rattle.script_names.specs.Index.{known_of}

pub is_text : (entries : List Entry) (names : List Name) (i : ℕ) (d : Entry) → names ≡ map known_of entries → i < length entries →
    All (λ n. IsUtf8 n.text) names → IsUtf8 ((get_or entries i d).text.now)
is_text entries names i d is within all =
    let known = map known_of entries in
    let here : i < length known = subst (λ n. i < n) (sym (length-map entries known_of)) within in
    let p : IsUtf8 ((get_or known i (known_of d)).text) = All-get_or (λ n. IsUtf8 n.text) known i (known_of d) here (subst (All (λ n. IsUtf8 n.text)) is all) in
    subst (λ n. IsUtf8 n.text) (get_or-map known_of entries i d (known_of d) within) p

pub all_texts : (entries : List Entry) (names : List Name) (n : ℕ) (texts : List (List ℕ)) → names ≡ map known_of entries → length entries ≤ n →
    texts ≡ map (λ e. e.text.now) (take n entries) → texts ≡ map (λ m. m.text) names
all_texts entries names n texts is past e =
    e ∙ (ap (map (λ e. e.text.now)) (take_all n entries past) ∙ (sym (map-map (λ m. m.text) known_of entries) ∙ ap (map (λ m. m.text)) (sym is)))
