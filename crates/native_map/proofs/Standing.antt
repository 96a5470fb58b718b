-- What words stand for rests on the words of the map alone, and is one thing.
use Rattle.std.proofs.Common.{◌≡◌, ℕ, ℤ, pos, zero, suc, ◌<◌, ◌≤◌, Bool, cond, not, ◌||◌, Some, refl, sym, ap, subst, ◌∙◌, arith, ◌⊎◌, List}
use Rattle.std.specs.Ordering.{int_eq}
use Rattle.std.specs.FinMap.{int_cmp-IsAntisymmetric}
use Rattle.std.specs.FinMap.Entries.{same_entries}
use Rattle.std.specs.Ordering.{int_cmp}
use Rattle.frame_ast.specs.Contents.{Contents, Pairs, IsHeld}
use Rattle.std.specs.Cmp.{int_cmp_total}
use Rattle.frame_ast.specs.Arguments.{get_in, put_in}
use Rattle.native_array.specs.Effects.{done}
use Rattle.native_map.specs.Effects.{get_effect, put_effect}
use Rattle.native_map.specs.declared.MapAt.{MapAt}
use Rattle.native_map.specs.declared.search.Spot.TheVariants.{Held, Free}
use Rattle.native_map.specs.Table.{places, flag_word, key_word, value_word, end_of, next_place, probe, home, holds, key_at, value_at, stops, place_of, spot_in, value_in, value_of}
use Rattle.native_map.specs.Layout.{HoldsPairs, StandsFor}
use Rattle.native_map.proofs.Ints.{to_T}
use Rattle.native_map.proofs.Probing.{next_below}
use Rattle.native_map.proofs.Tables.{count_same}
use Rattle.native_map.proofs.Searches.{home_below, in_place, in_gap, nowhere, ending, ended}

probe_same : (stops stops' : ℕ → Bool) (t : ℕ) → ((x : ℕ) → x < t → stops' x ≡ stops x) → (n p : ℕ) → p < t → probe stops' t n p ≡ probe stops t n p
probe_same stops stops' t same zero p hp = refl
probe_same stops stops' t same (suc n) p hp = λ i. cond (same p hp i) (Some p) (probe_same stops stops' t same n (next_place t p) (next_below t p hp) i)

module _ (at : MapAt) (cells cells' : ℕ → ℤ) (same : (w : ℕ) → at.start ≤ w → w < end_of at → cells' w ≡ cells w) where
  pub same_held : (x : ℕ) → x < places at.cap → holds cells' at.start x ≡ holds cells at.start x
  same_held x hx = ap (λ c. not (int_eq c (pos 0))) (same (flag_word at.start x) (omega arith) (omega arith))

  pub same_key : (x : ℕ) → x < places at.cap → key_at cells' at.start x ≡ key_at cells at.start x
  same_key x hx = same (key_word at.start x) (omega arith) (omega arith)

  pub same_value : (x : ℕ) → x < places at.cap → value_at cells' at.start x ≡ value_at cells at.start x
  same_value x hx = same (value_word at.start x) (omega arith) (omega arith)

  pub same_place : (k : ℤ) → place_of at cells' k ≡ place_of at cells k
  unfolding place_of
  same_place k = probe_same (stops cells at.start k) (stops cells' at.start k) (places at.cap) (λ x hx i. not (same_held x hx i) || int_eq (same_key x hx i) k)
      (places at.cap) (home (places at.cap) k) (home_below at.cap k)

  pub same_found : (k : ℤ) → value_of at cells' k ≡ value_of at cells k
  same_found k = elim (ending at cells k) [
    | nowhere e ↦ ap (λ o. value_in at cells' (spot_in at cells' o)) (same_place k ∙ e) ∙ sym (ap (λ o. value_in at cells (spot_in at cells o)) e)
    | in_place p e h ↦
        let hp = (ended at cells k p e).below in
        ap (λ o. value_in at cells' (spot_in at cells' o)) (same_place k ∙ e)
        ∙ ap (λ b. value_in at cells' (cond b (Held p) (Free p))) (same_held p hp ∙ h) ∙ ap Some (same_value p hp)
        ∙ sym (ap (λ o. value_in at cells (spot_in at cells o)) e ∙ ap (λ b. value_in at cells (cond b (Held p) (Free p))) h)
    | in_gap p e h ↦
        let hp = (ended at cells k p e).below in
        ap (λ o. value_in at cells' (spot_in at cells' o)) (same_place k ∙ e)
        ∙ ap (λ b. value_in at cells' (cond b (Held p) (Free p))) (same_held p hp ∙ h)
        ∙ sym (ap (λ o. value_in at cells (spot_in at cells o)) e ∙ ap (λ b. value_in at cells (cond b (Held p) (Free p))) h)
  ]

  pub still_holds : (ps : List (ℤ × ℤ)) → HoldsPairs at cells ps → HoldsPairs at cells' ps
  still_holds ps s = record {
    rising = s.rising;
    flags = λ x hx. subst (λ c. (c ≡ pos 0) ⊎ (c ≡ pos 1)) (sym (same (flag_word at.start x) (omega arith) (omega arith))) (s.flags x hx);
    searched = λ x hx sx. same_place (key_at cells' at.start x) ∙ ap (place_of at cells) (same_key x hx) ∙ s.searched x hx (sym (same_held x hx) ∙ sx);
    pairs = λ k. s.pairs k ∙ sym (same_found k);
    number = count_same (holds cells at.start) (holds cells' at.start) (places at.cap) same_held ∙ s.number;
    count = same at.start (omega arith) (omega arith) ∙ s.count;
    within = s.within;
  }

  pub still_stands : (c : Contents) → StandsFor at cells c → StandsFor at cells' c
  still_stands c s = (s.0, s.1, still_holds s.0 s.2)

pub holds_once : (at : MapAt) (cells : ℕ → ℤ) (ps qs : List (ℤ × ℤ)) → HoldsPairs at cells ps → HoldsPairs at cells qs → ps ≡ qs
holds_once at cells ps qs s r = same_entries int_cmp int_cmp_total int_cmp-IsAntisymmetric ps qs (to_T _ s.rising) (to_T _ r.rising)
    (λ k. s.pairs k ∙ sym (r.pairs k))

pub stands_once : (at : MapAt) (cells : ℕ → ℤ) (c d : Contents) → StandsFor at cells c → StandsFor at cells d → c ≡ d
stands_once at cells c d s r = s.1 ∙ ap (Pairs at.cap) (holds_once at cells s.0 r.0 s.2 r.2) ∙ sym r.1

-- what words stand for is what a map can hold
pub stands_held : (at : MapAt) (cells : ℕ → ℤ) (c : Contents) → StandsFor at cells c → IsHeld c
stands_held at cells c s = subst IsHeld (sym s.1) (s.2.within, s.2.rising)

-- `x[e]` and `x[e] = f` of a map are these effects, whatever the index and the width that owns places of an array

pub get_in-is : (at : MapAt) (cells : ℕ → ℤ) (c : Contents) → StandsFor at cells c → (width index : ℕ) (k : ℤ) → get_in width index k c ≡ (get_effect k c).0
get_in-is at cells c s width index k = subst (λ c. get_in width index k c ≡ (get_effect k c).0) (sym s.1) refl

pub put_in-is : (at : MapAt) (cells : ℕ → ℤ) (c : Contents) → StandsFor at cells c → (width index : ℕ) (k v : ℤ)
    → put_effect k v c ≡ done tt c (put_in width index k v c)
put_in-is at cells c s width index k v = subst (λ c. put_effect k v c ≡ done tt c (put_in width index k v c)) (sym s.1) refl
