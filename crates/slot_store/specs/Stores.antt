-- What a store stands for: for each slot its place, and the peak.
use Rattle.std.specs.Prelude.{◌≡◌, ℕ, ◌+◌, ◌<◌, ◌≤◌, Bool, List, ◌&&◌, not, if◌then◌else◌, sum_by, vec_len, vec_capacity}
use Rattle.job_base.specs.declared.Span.{Span}
use Rattle.job_handle.specs.declared.handle.Handle.{Handle}
use Rattle.frame_ast.specs.Jobs.{Book, Jobs, any_job}
use Rattle.slot_store.specs.declared.place.Place.{Place}
use Rattle.slot_store.specs.declared.store.SlotStore.{SlotStore}
use Rattle.slot_store.specs.declared.place.State.TheVariants.{Free, Taken, Held}
use Rattle.slot_store.specs.Places.{places_in, set_at, place_at, some_live, live_len, used_once, is_held, users_of, slot_in}

-- by slot, for whose sake its range is held, where it is
abbrev pub sets_of : SlotStore → ℕ → Handle
sets_of store s = set_at store.users.items store.none s

-- the places of all slots
abbrev pub places_of : SlotStore → List Place
places_of store = places_in store.lots.items (sets_of store)

-- what a slot stands for
abbrev pub place_of : SlotStore → ℕ → Place
place_of store s = place_at (places_of store) s

-- the greatest end of any range taken so far
abbrev pub peak_of : SlotStore → ℕ
peak_of store = store.peak

-- whether a word is in the range of a slot that is taken or held
abbrev pub is_live_word : SlotStore → ℕ → Bool
is_live_word store w = some_live (places_of store) w

-- how many words are live
abbrev pub live_words_of : SlotStore → ℕ
live_words_of store = sum_by live_len (places_of store)

-- how many slots are taken or held
abbrev pub slots_in_use : SlotStore → ℕ
slots_in_use store = sum_by used_once (places_of store)

-- two stores that stand for the same
pub record IsSame (old new : SlotStore) : Type 0 where
  pub places : (s : ℕ) → place_of new s ≡ place_of old s
  pub live : live_words_of new ≡ live_words_of old
  pub used : slots_in_use new ≡ slots_in_use old
  pub peak : peak_of new ≡ peak_of old

-- the place of a slot that was just taken
abbrev pub taken : ℕ → Span → Place
taken version span = record { state = Taken; version = version; span = span }

-- the place of a slot that was given back
abbrev pub given : Place → Place
given p = record { state = Free; version = p.version + 1; span = p.span }

-- the place of a slot whose range is held until some jobs are completed
abbrev pub held : Place → Handle → Place
held p users = record { state = Held users; version = p.version + 1; span = p.span }

-- the place of a slot whose range came back after it was held
abbrev pub freed : Place → Place
freed p = record { state = Free; version = p.version; span = p.span }

-- whether one of some jobs isn't completed
abbrev pub is_pending : Book → Jobs → Bool
is_pending b users = any_job (λ j. users j && not (b.completed j)) b.count

-- a range that was held for jobs of which none is pending comes back with its slot
abbrev pub settled : Book → Place → Place
settled b p = if is_held p.state && not (is_pending b (users_of p.state)) then freed p else p

-- the slot at a place of the list of those that are held
abbrev pub slot_at : SlotStore → ℕ → ℕ
slot_at store k = slot_in store.held.items k

-- There is room for one more range, and for all that are live, and a place for one more slot.
pub record IsReady (store : SlotStore) : Type 0 where
  pub place : store.slots.top < vec_len store.lots
  pub words : vec_len store.words.holes + vec_len store.lots < vec_capacity store.words.holes
  pub slots : vec_len store.slots.holes + vec_len store.lots < vec_capacity store.slots.holes
  pub held : vec_len store.held + vec_len store.lots ≤ vec_capacity store.held

-- how many words are live, and how many slots in use, once each held range that has no pending user came back
abbrev pub live_words_settled : Book → SlotStore → ℕ
live_words_settled b store = sum_by (λ p. live_len (settled b p)) (places_of store)

abbrev pub slots_in_use_settled : Book → SlotStore → ℕ
slots_in_use_settled b store = sum_by (λ p. used_once (settled b p)) (places_of store)
