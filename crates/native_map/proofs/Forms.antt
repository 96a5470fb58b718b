-- Each call's word form, and its words after each way in which its search ends.
use Rattle.std.proofs.Common.{◌≡◌, ℕ, ℤ, ◌^◌, ◌<◌, Bool, true, false, Option, Result, Ok, Err, List, [], pos, refl, sym, ap, subst, ◌∙◌, w64}
use Rattle.std.specs.Int.{int_wrapping_sub}
use Rattle.job_base.specs.declared.Trap.{Trap}
use Rattle.job_base.specs.declared.Trap.TheVariants.{Full, PresentKey}
use Rattle.job_base.specs.Cells.{with_cell}
use Rattle.frame_ast.specs.Contents.{Contents, Pairs}
use Rattle.native_map.specs.declared.MapAt.{MapAt}
use Rattle.native_map.specs.declared.search.Spot.TheVariants.{Held, Free, Nowhere}
use Rattle.native_map.specs.Table.{places, value_word, end_of, next_place, spot_of}
use Rattle.native_map.specs.Words.{shifted, put_words, put_words_in, add_words, add_words_in, add_words_at, try_add_words, try_add_words_in, try_add_words_at, remove_words, remove_words_in, count_words, next_words, clear_words, get_words, has_words}
use Rattle.native_map.specs.Layout.{HoldsPairs, StandsFor, IsWordForm}
use Rattle.native_map.specs.Effects.{put_effect, add_effect, try_add_effect, remove_effect, clear_effect, get_effect, has_effect, count_effect, next_effect}
use Rattle.native_map.proofs.Claims.{Becomes, Alike}
use Rattle.native_map.proofs.Searches.{get_law, has_law}
use Rattle.native_map.proofs.Nearest.{next_law}
use Rattle.native_map.proofs.Effects.{put_law, put_outside, add_law, add_outside, try_add_law, try_add_outside, remove_law, remove_outside, clear_law, clear_outside, count_law}
use Rattle.native_map.proofs.Readings.{put_reads, add_reads, try_add_reads, remove_reads, clear_reads, get_reads, has_reads, count_reads, next_reads}

-- what holds of the pairs of a map holds of its contents
of_pairs : {A : Type 0} (at : MapAt) (form : (ℕ → ℤ) → A × (ℕ → ℤ)) (effect : Contents → A × Contents)
    → ((cells : ℕ → ℤ) (ps : List (ℤ × ℤ)) → HoldsPairs at cells ps → Becomes at (form cells) (effect (Pairs at.cap ps)))
    → (cells : ℕ → ℤ) (c : Contents) → StandsFor at cells c → Becomes at (form cells) (effect c)
of_pairs at form effect law cells c s = subst (λ c. Becomes at (form cells) (effect c)) (sym s.1) (law cells s.0 s.2)

module _ (at : MapAt) (k v : ℤ) (fits : end_of at < 2 ^ 32) where
  pub put_form : IsWordForm at (λ cells. put_words at cells k v) (put_effect k v)
  put_form = record {
    stands = of_pairs at (λ cells. put_words at cells k v) (put_effect k v) (λ cells ps s. put_law at cells ps s fits k v);
    changes = λ cells. put_outside at cells k v;
    answer = λ a b h. (put_reads at a b h k v).0;
    reads = λ a b h. (put_reads at a b h k v).1;
  }

  pub add_form : IsWordForm at (λ cells. add_words at cells k v) (add_effect k v)
  add_form = record {
    stands = of_pairs at (λ cells. add_words at cells k v) (add_effect k v) (λ cells ps s. add_law at cells ps s fits k v);
    changes = λ cells. add_outside at cells k v;
    answer = λ a b h. (add_reads at a b h k v).0;
    reads = λ a b h. (add_reads at a b h k v).1;
  }

  pub try_add_form : IsWordForm at (λ cells. try_add_words at cells k v) (try_add_effect k v)
  try_add_form = record {
    stands = of_pairs at (λ cells. try_add_words at cells k v) (try_add_effect k v) (λ cells ps s. try_add_law at cells ps s fits k v);
    changes = λ cells. try_add_outside at cells k v;
    answer = λ a b h. (try_add_reads at a b h k v).0;
    reads = λ a b h. (try_add_reads at a b h k v).1;
  }

pub remove_form : (at : MapAt) (k : ℤ) → end_of at < 2 ^ 32 → IsWordForm at (λ cells. remove_words at cells k) (remove_effect k)
remove_form at k fits = record {
  stands = of_pairs at (λ cells. remove_words at cells k) (remove_effect k) (λ cells ps s. remove_law at cells ps s fits k k);
  changes = λ cells. remove_outside at cells k;
  answer = λ a b h. (remove_reads at a b h k).0;
  reads = λ a b h. (remove_reads at a b h k).1;
}

pub clear_form : (at : MapAt) → IsWordForm at (λ cells. (tt, clear_words at cells)) clear_effect
clear_form at = record {
  stands = of_pairs at (λ cells. (tt, clear_words at cells)) clear_effect (λ cells ps s. (refl, ([], refl, clear_law at cells)));
  changes = λ cells. clear_outside at cells;
  answer = λ a b h. refl;
  reads = λ a b h. clear_reads at a b h;
}

-- a form that only reads
reading : {A : Type 0} (at : MapAt) (form : (ℕ → ℤ) → A) (effect : Contents → A)
    → ((cells : ℕ → ℤ) (ps : List (ℤ × ℤ)) → HoldsPairs at cells ps → form cells ≡ effect (Pairs at.cap ps))
    → ((a b : ℕ → ℤ) → Alike at a b → form b ≡ form a) → IsWordForm at (λ cells. (form cells, cells)) (λ c. (effect c, c))
reading at form effect law same = record {
  stands = of_pairs at (λ cells. (form cells, cells)) (λ c. (effect c, c)) (λ cells ps s. (law cells ps s, (ps, refl, s)));
  changes = λ cells w out. refl;
  answer = λ a b h. same a b h;
  reads = λ a b h. h;
}

pub get_form : (at : MapAt) (k : ℤ) → IsWordForm at (λ cells. (get_words at cells k, cells)) (get_effect k)
get_form at k = reading at (λ cells. get_words at cells k) (λ c. (get_effect k c).0) (λ cells ps s. get_law at cells ps s k) (λ a b h. get_reads at a b h k)

pub has_form : (at : MapAt) (k : ℤ) → IsWordForm at (λ cells. (has_words at cells k, cells)) (has_effect k)
has_form at k = reading at (λ cells. has_words at cells k) (λ c. (has_effect k c).0) (λ cells ps s. has_law at cells ps s k) (λ a b h. has_reads at a b h k)

pub count_form : (at : MapAt) → IsWordForm at (λ cells. (count_words at cells, cells)) count_effect
count_form at = reading at (count_words at) (λ c. (count_effect c).0) (count_law at) (count_reads at)

pub next_form : (at : MapAt) (k : Option ℤ) → IsWordForm at (λ cells. (next_words at cells k, cells)) (next_effect k)
next_form at k = reading at (λ cells. next_words at cells k) (λ c. (next_effect k c).0) (λ cells ps s. next_law at cells ps s k)
    (λ a b h. next_reads at a b h k)

-- ---- the words of a call, by the end of its search

module _ (at : MapAt) (old : ℕ → ℤ) (k v : ℤ) (new : ℕ → ℤ) where
  pub put_in_held : (p : ℕ) → Held p ≡ spot_of at old k → new ≡ with_cell old (value_word at.start p) v
      → ◌≡◌ {A = Result (Unit {0}) Trap × (ℕ → ℤ)} (Ok tt, new) (put_words at old k v)
  put_in_held p spot cells = (λ i. (Ok tt, cells i)) ∙ ap (λ sp. put_words_in at old sp k v) spot

  pub put_in_free : (p : ℕ) → Free p ≡ spot_of at old k → (result : Result (Unit {0}) Trap) → (result, new) ≡ add_words_at at old p k v
      → (result, new) ≡ put_words at old k v
  put_in_free p spot result words = words ∙ ap (λ sp. put_words_in at old sp k v) spot

  pub put_nowhere : Nowhere ≡ spot_of at old k → new ≡ old → ◌≡◌ {A = Result (Unit {0}) Trap × (ℕ → ℤ)} (Err Full, new) (put_words at old k v)
  put_nowhere spot cells = (λ i. (Err Full, cells i)) ∙ ap (λ sp. put_words_in at old sp k v) spot

  pub add_in_held : (p : ℕ) → Held p ≡ spot_of at old k → new ≡ old → ◌≡◌ {A = Result (Unit {0}) Trap × (ℕ → ℤ)} (Err PresentKey, new) (add_words at old k v)
  add_in_held p spot cells = (λ i. (Err PresentKey, cells i)) ∙ ap (λ sp. add_words_in at old sp k v) spot

  pub add_in_free : (p : ℕ) → Free p ≡ spot_of at old k → (result : Result (Unit {0}) Trap) → (result, new) ≡ add_words_at at old p k v
      → (result, new) ≡ add_words at old k v
  add_in_free p spot result words = words ∙ ap (λ sp. add_words_in at old sp k v) spot

  pub add_nowhere : Nowhere ≡ spot_of at old k → new ≡ old → ◌≡◌ {A = Result (Unit {0}) Trap × (ℕ → ℤ)} (Err Full, new) (add_words at old k v)
  add_nowhere spot cells = (λ i. (Err Full, cells i)) ∙ ap (λ sp. add_words_in at old sp k v) spot

  pub try_add_in_held : (p : ℕ) → Held p ≡ spot_of at old k → new ≡ old → ◌≡◌ {A = Result Bool Trap × (ℕ → ℤ)} (Ok false, new) (try_add_words at old k v)
  try_add_in_held p spot cells = (λ i. (Ok false, cells i)) ∙ ap (λ sp. try_add_words_in at old sp k v) spot

  pub try_add_in_free : (p : ℕ) → Free p ≡ spot_of at old k → (result : Result Bool Trap) → (result, new) ≡ try_add_words_at at old p k v
      → (result, new) ≡ try_add_words at old k v
  try_add_in_free p spot result words = words ∙ ap (λ sp. try_add_words_in at old sp k v) spot

  pub try_add_nowhere : Nowhere ≡ spot_of at old k → new ≡ old → ◌≡◌ {A = Result Bool Trap × (ℕ → ℤ)} (Err Full, new) (try_add_words at old k v)
  try_add_nowhere spot cells = (λ i. (Err Full, cells i)) ∙ ap (λ sp. try_add_words_in at old sp k v) spot

  pub remove_in_held : (p : ℕ) → Held p ≡ spot_of at old k
      → new ≡ with_cell (shifted at (places at.cap) old p (next_place (places at.cap) p)) at.start (int_wrapping_sub w64 (old at.start) (pos 1))
      → (true, new) ≡ remove_words at old k
  remove_in_held p spot cells = (λ i. (true, cells i)) ∙ ap (remove_words_in at old) spot

  pub remove_in_free : (p : ℕ) → Free p ≡ spot_of at old k → new ≡ old → (false, new) ≡ remove_words at old k
  remove_in_free p spot cells = (λ i. (false, cells i)) ∙ ap (remove_words_in at old) spot

  pub remove_nowhere : Nowhere ≡ spot_of at old k → new ≡ old → (false, new) ≡ remove_words at old k
  remove_nowhere spot cells = (λ i. (false, cells i)) ∙ ap (remove_words_in at old) spot
