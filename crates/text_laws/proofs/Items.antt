-- Events spell one list of items, but for what is said of kernels beside their events.
use Rattle.std.proofs.Common.{◌≡◌, ℕ, Bool, true, false, List, [], ◌∷◌, ◌++◌, length, Some, None, refl, sym, ◌∙◌, ap, append_assoc}
use Rattle.frame_grammar.specs.declared.symbols.Action.{Action}
use Rattle.frame_grammar.specs.declared.symbols.Action.TheVariants as action
use Rattle.frame_grammar.specs.declared.symbols.Event.{Event}
use Rattle.kernel_raw.specs.RawEvents.{on, opening}
use Rattle.kernel_raw.specs.Raw as code
use Rattle.script_text.specs.Raw.{OrderForm, Repeat, When, KernelForm, RawItems, Nothing, Kernel, Single, Block}
use Rattle.script_text.specs.Events.{closing, SpellsOrder, SpellsKernel, BeginsKernel, SpellsItems, nothing, kernel, single, block}
use Rattle.script_text.specs.Reading.{nothing_read, order_from, len_to_close}
use Rattle.script_text.proofs.Reading.Orders.{order_read}
use Rattle.script_text.proofs.Reading.KernelEnds.{kernel_ends}

-- items of whose kernels only the events are told
abbrev pub unsaid : KernelForm
unsaid = record { parallel = false; name = 0; params = []; body = code.Nothing }

abbrev pub bare : RawItems → RawItems
bare Nothing = Nothing
bare (Kernel events form more) = Kernel events unsaid (bare more)
bare (Single at order more) = Single at order (bare more)
bare (Block at head inner more) = Block at head (bare inner) (bare more)

-- what events begin with: no item, a kernel or a statement

abbrev begun_by : Action → ℕ
begun_by action.OpenJob = 1
begun_by action.OpenParallel = 1
begun_by action.StartStatement = 2
begun_by _ = 0

abbrev begins : List Event → ℕ
begins [] = 0
begins (e ∷ es) = begun_by e.action

abbrev first_of : RawItems → ℕ
first_of Nothing = 0
first_of (Kernel events form more) = 1
first_of (Single at order more) = 2
first_of (Block at head inner more) = 2

opening_begins : (parallel : Bool) → begun_by (opening parallel) ≡ 1
opening_begins true = refl
opening_begins false = refl

first_is : {outside : Bool} {events : List Event} {items : RawItems} → SpellsItems outside events items → (rest : List Event) → begins rest ≡ 0
    → begins (events ++ rest) ≡ first_of items
first_is (nothing e) rest ends = ap (λ es. begins (es ++ rest)) e ∙ ends
first_is (kernel {k = k} more s m e) rest ends = ap (λ es. begins (es ++ rest)) e ∙ ap (λ es. begins ((es ++ more) ++ rest)) s.spelled
    ∙ opening_begins k.parallel
first_is (single es more s no_block m e) rest ends = ap (λ es. begins (es ++ rest)) e
first_is (block end q hs is more s closes i m e) rest ends = ap (λ es. begins (es ++ rest)) e

-- the end of a block begins no item
end_begins : (head : OrderForm) (end : Action) → closing head ≡ Some end → begun_by end ≡ 0
end_begins (Repeat n) end e = let same : end ≡ action.RepeatStatement = cc in ap begun_by same
end_begins (When x s value) end e = let same : end ≡ action.WhenStatement = cc in ap begun_by same
end_begins _ end e = absurd cc

-- lists of one length before others
halves : (xs ys as' bs : List Event) → length xs ≡ length ys → xs ++ as' ≡ ys ++ bs → (xs ≡ ys) × (as' ≡ bs)
halves [] [] as' bs same e = (refl, e)
halves [] (y ∷ ys) as' bs same e = absurd cc
halves (x ∷ xs) [] as' bs same e = absurd cc
halves (x ∷ xs) (y ∷ ys) as' bs same e =
    let sizes : length xs ≡ length ys = cc in
    let behind : xs ++ as' ≡ ys ++ bs = cc in
    let h = halves xs ys as' bs sizes behind in
    let first : x ≡ y = cc in
    (ap (λ z. z ∷ xs) first ∙ ap (λ z. y ∷ z) h.0, h.1)

kernel_once : (es es' more more' : List Event) (k k' : KernelForm) → SpellsKernel es k → SpellsKernel es' k' → es ++ more ≡ es' ++ more'
    → (es ≡ es') × (more ≡ more')
kernel_once es es' more more' k k' s s' e =
    let first : BeginsKernel (es ++ more) = record { events = es; rest = more; form = k; all_are = refl; spells = s } in
    let second : BeginsKernel (es' ++ more') = record { events = es'; rest = more'; form = k'; all_are = refl; spells = s' } in
    halves es es' more more' (sym (kernel_ends (es ++ more) first) ∙ ap len_to_close e ∙ kernel_ends (es' ++ more') second) e

pub record OrderOnce (f f' : OrderForm) (rest rest' : List Event) : Type 0 where
  pub forms : f ≡ f'
  pub rests : rest ≡ rest'

order_once : (at at' : ℕ) (es es' rest rest' : List Event) (f f' : OrderForm) → SpellsOrder es f → SpellsOrder es' f' →
    on action.StartStatement at ∷ es ++ rest ≡ on action.StartStatement at' ∷ es' ++ rest' → (at ≡ at') × OrderOnce f f' rest rest'
order_once at at' es es' rest rest' f f' s s' e =
    let behind : es ++ rest ≡ es' ++ rest' = cc in
    let found : OrderForm × List Event = (f, rest) in
    let other : OrderForm × List Event = (f', rest') in
    let both : Some found ≡ Some other = sym (order_read s rest) ∙ ap (λ x. order_from nothing_read x) behind ∙ order_read s' rest' in
    let pairs : found ≡ other = cc in
    let starts : on action.StartStatement at ≡ on action.StartStatement at' = cc in
    (ap (λ x. x.place) starts, record { forms = ap (λ x. x.0) pairs; rests = ap (λ x. x.1) pairs })

-- what stands behind a statement or a block, and then behind all items
behind_one : (events es more rest : List Event) (x : Event) → events ≡ x ∷ es ++ more → events ++ rest ≡ x ∷ es ++ (more ++ rest)
behind_one events es more rest x e = ap (λ y. y ++ rest) e ∙ ap (λ y. x ∷ y) (append_assoc es more rest)

behind_block : (events hs is more rest : List Event) (x y : Event) → events ≡ x ∷ hs ++ (is ++ y ∷ more) → events ++ rest ≡ x ∷ hs ++ (is ++ y ∷ (more ++ rest))
behind_block events hs is more rest x y e =
    behind_one events hs (is ++ y ∷ more) rest x e ∙ ap (λ z. x ∷ hs ++ z) (append_assoc is (y ∷ more) rest)

closed_alike : (head head' : OrderForm) (end : Action) → closing head ≡ None → closing head' ≡ Some end → head ≡ head' → ⊥
closed_alike head head' end none some same = let e : None ≡ Some end = sym none ∙ ap closing same ∙ some in absurd cc

same_single : (at at' : ℕ) (order order' : OrderForm) (more more' : RawItems) → at ≡ at' → order ≡ order' → more ≡ more'
    → Single at order more ≡ Single at' order' more'
same_single at at' order order' more more' a b c = cc

same_block : (at at' : ℕ) (head head' : OrderForm) (inner inner' more more' : RawItems) → at ≡ at' → head ≡ head' → inner ≡ inner' → more ≡ more' →
    Block at head inner more ≡ Block at' head' inner' more'
same_block at at' head head' inner inner' more more' a b c d = cc

same_kernel : (es es' : List Event) (more more' : RawItems) → es ≡ es' → more ≡ more' → Kernel es unsaid more ≡ Kernel es' unsaid more'
same_kernel es es' more more' a b = ap (λ x. Kernel x unsaid more) a ∙ ap (λ x. Kernel es' unsaid x) b

tails : (x y : Event) (xs ys : List Event) → x ∷ xs ≡ y ∷ ys → xs ≡ ys
tails x y xs ys e = cc

same_first : {outside : Bool} {events others : List Event} {a b : RawItems} → SpellsItems outside events a → SpellsItems outside others b →
    (rest rest' : List Event) → begins rest ≡ 0 → begins rest' ≡ 0 → events ++ rest ≡ others ++ rest' → first_of a ≡ first_of b
same_first s t rest rest' h h' e = sym (first_is s rest h) ∙ ap begins e ∙ first_is t rest' h'

alike : {outside : Bool} {events others : List Event} {a b : RawItems} → SpellsItems outside events a → SpellsItems outside others b →
    (rest rest' : List Event) → begins rest ≡ 0 → begins rest' ≡ 0 → events ++ rest ≡ others ++ rest' → first_of a ≡ first_of b
    → (bare a ≡ bare b) × (rest ≡ rest')
alike (nothing e1) (nothing e2) rest rest' h h' e same = (refl, sym (ap (λ x. x ++ rest) e1) ∙ e ∙ ap (λ x. x ++ rest') e2)
alike (kernel {es = es} {k = k} more s m e1) (kernel {es = es'} {k = k'} more' s' m' e2) rest rest' h h' e same =
    let first = ap (λ x. x ++ rest) e1 ∙ append_assoc es more rest in
    let second = ap (λ x. x ++ rest') e2 ∙ append_assoc es' more' rest' in
    let one = kernel_once es es' (more ++ rest) (more' ++ rest') k k' s s' (sym first ∙ e ∙ second) in
    let others = alike m m' rest rest' h h' one.1 (same_first m m' rest rest' h h' one.1) in
    (same_kernel es es' _ _ one.0 others.0, others.1)
alike {events} {others = events'} (single {at = at} {order = order} es more s no_block m e1)
    (single {at = at'} {order = order'} es' more' s' no_block' m' e2) rest rest' h h' e same =
    let first = behind_one events es more rest (on action.StartStatement at) e1 in
    let second = behind_one events' es' more' rest' (on action.StartStatement at') e2 in
    let one = order_once at at' es es' (more ++ rest) (more' ++ rest') order order' s s' (sym first ∙ e ∙ second) in
    let others = alike m m' rest rest' h h' one.1.rests (same_first m m' rest rest' h h' one.1.rests) in
    (same_single at at' order order' _ _ one.0 one.1.forms others.0, others.1)
alike {events} {others = events'} (block {at = at} {head = head} end q hs is more s closes i m e1)
    (block {at = at'} {head = head'} end' q' hs' is' more' s' closes' i' m' e2) rest rest' h h' e same =
    let first = behind_block events hs is more rest (on action.StartStatement at) (on end q) e1 in
    let second = behind_block events' hs' is' more' rest' (on action.StartStatement at') (on end' q') e2 in
    let one = order_once at at' hs hs' (is ++ on end q ∷ (more ++ rest)) (is' ++ on end' q' ∷ (more' ++ rest')) head head' s s' (sym first ∙ e ∙ second) in
    let inside = alike i i' (on end q ∷ (more ++ rest)) (on end' q' ∷ (more' ++ rest')) (end_begins head end closes) (end_begins head' end' closes') one.1.rests
    (same_first i i' (on end q ∷ (more ++ rest)) (on end' q' ∷ (more' ++ rest')) (end_begins head end closes)
    (end_begins head' end' closes') one.1.rests) in
    let others = alike m m' rest rest' h h' (tails _ _ (more ++ rest) (more' ++ rest') inside.1)
    (same_first m m' rest rest' h h' (tails _ _ (more ++ rest) (more' ++ rest') inside.1)) in
    (same_block at at' head head' _ _ _ _ one.0 one.1.forms inside.0 others.0, others.1)
alike {events} {others = events'} (single {at = at} {order = order} es more s no_block m e1)
    (block {at = at'} {head = head'} end' q' hs' is' more' s' closes' i' m' e2) rest rest' h h' e same =
    let first = behind_one events es more rest (on action.StartStatement at) e1 in
    let second = behind_block events' hs' is' more' rest' (on action.StartStatement at') (on end' q') e2 in
    let one = order_once at at' es hs' (more ++ rest) (is' ++ on end' q' ∷ (more' ++ rest')) order head' s s' (sym first ∙ e ∙ second) in
    absurd (closed_alike order head' end' no_block closes' one.1.forms)
alike {events} {others = events'} (block {at = at} {head = head} end q hs is more s closes i m e1)
    (single {at = at'} {order = order'} es' more' s' no_block' m' e2) rest rest' h h' e same =
    let first = behind_block events hs is more rest (on action.StartStatement at) (on end q) e1 in
    let second = behind_one events' es' more' rest' (on action.StartStatement at') e2 in
    let one = order_once at at' hs es' (is ++ on end q ∷ (more ++ rest)) (more' ++ rest') head order' s s' (sym first ∙ e ∙ second) in
    absurd (closed_alike order' head end no_block' closes (sym one.1.forms))
alike _ _ rest rest' h h' e same = absurd cc

-- The items that events begin with, where none begins behind them.
pub items_once : {outside : Bool} {events others : List Event} {a b : RawItems} → SpellsItems outside events a → SpellsItems outside others b →
    (rest rest' : List Event) → begins rest ≡ 0 → begins rest' ≡ 0 → events ++ rest ≡ others ++ rest' → (bare a ≡ bare b) × (rest ≡ rest')
items_once s t rest rest' h h' e = alike s t rest rest' h h' e (same_first s t rest rest' h h' e)

pub file_once : (events : List Event) (a b : RawItems) → SpellsItems true events a → SpellsItems true events b → bare a ≡ bare b
file_once events a b s t = (items_once s t [] [] refl refl refl).0
