-- A walk over the events of a file, item by item.
use Rattle.std.specs.Prelude.{◌≡◌, ◌⊎◌, ◌<◌, ◌≤◌, ℕ, ◌-◌, true, false, List, [], ◌∷◌, ◌++◌, length, take, drop, None, Some}
use Rattle.frame_grammar.specs.declared.symbols.Action.{Action}
use Rattle.frame_grammar.specs.declared.symbols.Event.{Event}
use Rattle.kernel_raw.specs.RawEvents.{on}
use Rattle.script_text.specs.declared.build_item.RawItem.{RawItem}
use Rattle.script_text.specs.declared.build_item.RawItem.TheVariants as item
use Rattle.script_text.specs.Raw.{OrderForm, KernelForm, RawItems, Nothing, Kernel, Single, Block, form_of}
use Rattle.script_text.specs.Events.{closing, SpellsKernel, SpellsItems}

-- What events spell where blocks are open: what is left of the items of the innermost block, of the one around it, and
-- so on, and last of the items outside blocks.
pub data SpellsOpen : List Event → List RawItems → Type 0 where
  outside : {events : List Event} {items : RawItems} → SpellsItems true events items → SpellsOpen events (items ∷ [])
  inside : {events : List Event} {items around : RawItems} {more : List RawItems} (end : Action) (q : ℕ)
      (head : OrderForm) (is rest : List Event) →
      closing head ≡ Some end → SpellsItems false is items → SpellsOpen rest (around ∷ more) →
      events ≡ is ++ on end q ∷ rest →
      SpellsOpen events (items ∷ around ∷ more)

-- a kernel comes first, whose events are those up to a place
pub record LeadsKernel (all : List Event) (at next : ℕ) (items : List RawItems) : Type 0 where
  pub events : List Event
  pub form : KernelForm
  pub more : RawItems
  pub around : List RawItems
  pub items_are : items ≡ Kernel events form more ∷ around
  pub events_are : take (next - at) (drop at all) ≡ events
  pub spells : SpellsKernel events form
  pub left : SpellsOpen (drop next all) (more ∷ around)

-- this statement without a block comes first
pub record LeadsSingle (all : List Event) (first : ℕ) (form : OrderForm) (next : ℕ)
    (items : List RawItems) : Type 0 where
  pub more : RawItems
  pub around : List RawItems
  pub no_block : closing form ≡ None
  pub items_are : items ≡ Single first form more ∷ around
  pub left : SpellsOpen (drop next all) (more ∷ around)

-- this statement with a block comes first, and its block is open behind it
pub record LeadsBlock (all : List Event) (first : ℕ) (form : OrderForm) (next : ℕ)
    (items : List RawItems) : Type 0 where
  pub end : Action
  pub inner : RawItems
  pub more : RawItems
  pub around : List RawItems
  pub closes : closing form ≡ Some end
  pub items_are : items ≡ Block first form inner more ∷ around
  pub left : SpellsOpen (drop next all) (inner ∷ more ∷ around)

-- the innermost block ends
pub record LeadsOut (all : List Event) (next : ℕ) (items : List RawItems) : Type 0 where
  pub around : RawItems
  pub more : List RawItems
  pub items_are : items ≡ Nothing ∷ around ∷ more
  pub left : SpellsOpen (drop next all) (around ∷ more)

-- a statement of this form comes first
abbrev pub LeadsOrder : (all : List Event) → (at first : ℕ) → OrderForm → (next : ℕ) → List RawItems → Type 0
LeadsOrder all at first form next items =
    (at < next) × (next ≤ length all) × (LeadsSingle all first form next items ⊎ LeadsBlock all first form next items)

-- Of the items that the events spell from a place on, this comes first, and behind it the others are left.
abbrev pub Leads : (all : List Event) (at : ℕ) → RawItem → List RawItems → Type 0
Leads all at item.None items = items ≡ Nothing ∷ []
Leads all at (item.Kernel next) items = (at < next) × (next ≤ length all) × LeadsKernel all at next items
Leads all at (item.Order first order next) items = LeadsOrder all at first (form_of order) next items
Leads all at (item.End next) items = (at < next) × (next ≤ length all) × LeadsOut all next items

-- events that spell items with blocks open
pub record IsOpen (events : List Event) : Type 0 where
  pub items : List RawItems
  pub spells : SpellsOpen events items
