-- What is known before items is known behind them.
use Rattle.std.proofs.Common.{◌≡◌, ℕ, Bool, true, false, cond, List, [], ◌∷◌, ◌++◌, Option, None, Some, refl}
use Rattle.frame_grammar.specs.declared.symbols.Event.{Event}
use Rattle.frame_ast.specs.declared.name_kind.NameKind.{NameKind}
use Rattle.script_text.specs.declared.source.Source.{Source}
use Rattle.script_names.specs.Names.{Name}
use Rattle.script_text.specs.Raw.{OrderForm, RawItems, Nothing, Kernel, Single, Block}
use Rattle.script_text.specs.Events.{SpellsItems}
use Rattle.script_text.specs.Events as raw
use Rattle.script_checks.specs.Faults.{Scope, made_by}
use Rattle.script_checks.specs.Spelling.{names_with, names_after}
use Rattle.frame_script.specs.Files.{IsFaultless, after_order, after_kernel, after_block, in_block}
use Rattle.frame_script.specs.Files as files
use Rattle.frame_script.proofs.Accepting.Names.{Leads, leads_all, leads_on}

added : (b : Bool) (names : List Name) (new : Name) → Leads names (cond b names (names ++ new ∷ []))
added true names new = leads_all names
added false names new = record { more = new ∷ []; is = refl }

with_leads : (s : Source) (names : List Name) (made : Option (ℕ × NameKind)) → Leads names (names_with s names made)
with_leads s names None = leads_all names
with_leads s names (Some m) = added _ names _

-- the names known before a statement come first behind it
pub names_lead : (s : Source) (names : List Name) (form : OrderForm) → Leads names (names_after s names form)
names_lead s names form = with_leads s names (made_by s names form)

-- the names and the kernels known before items come first behind them
pub record Grows (c last : Scope) : Type 0 where
  pub names : Leads c.names last.names
  pub kernels : Leads c.kernels last.kernels

pub grows : (s : Source) (items : RawItems) {c last : Scope} → IsFaultless s c items last → Grows c last
grows s Nothing {c} files.nothing = record { names = leads_all c.names; kernels = leads_all c.kernels }
grows s (Kernel events form more) {c} {last} (files.kernel raw k is none kernel_of rest) =
    let g = grows s more rest in
    record { names = g.names; kernels = leads_on c.kernels (c.kernels ++ k ∷ []) last.kernels (record { more = k ∷ []; is = refl }) g.kernels }
grows s (Single at order more) {c} {last} (files.single none rest) =
    let g = grows s more rest in
    record { names = leads_on c.names (names_after s c.names order) last.names (names_lead s c.names order) g.names; kernels = g.kernels }
grows s (Block at head inner more) {c} {last} (files.block middle none within rest) =
    let i = grows s inner within in
    let g = grows s more rest in
    record { names = leads_on c.names middle.names last.names i.names g.names; kernels = g.kernels }

-- in a block no kernel is made
pub kernels_kept : (s : Source) (items : RawItems) {c last : Scope} {es : List Event} → SpellsItems false es items → IsFaultless s c items last
    → last.kernels ≡ c.kernels
kernels_kept s Nothing spells files.nothing = refl
kernels_kept s (Kernel events form more) spells faultless = elim spells [ ]
kernels_kept s (Single at order more) (raw.single es rest spells closes others is) (files.single none behind) = kernels_kept s more others behind
kernels_kept s (Block at head inner more) (raw.block end q hs es rest spells closes within others is) (files.block middle none inside behind) =
    kernels_kept s more others behind
