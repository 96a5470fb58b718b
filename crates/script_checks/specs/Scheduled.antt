-- What a schedule of a known kernel says behind the kernel's name.
use Rattle.std.specs.Prelude.{◌≡◌, ℕ, List, map}
use Rattle.frame_ast.specs.declared.kernel.Kernel.{Kernel}
use Rattle.script_text.specs.declared.raw.RawArg.{RawArg}
use Rattle.script_text.specs.declared.raw.RawSizes.{RawSizes}
use Rattle.script_text.specs.declared.source.Source.{Source}
use Rattle.script_checks.specs.declared.order_checks.jobs.Behind.{Behind}
use Rattle.script_text.specs.Sources.{text_at}
use Rattle.script_names.specs.Names.{Name}
use Rattle.script_checks.specs.Spelling.{cut_of, param_place}
use Rattle.script_checks.specs.Checks.{AreArgs, IsDefer, ArePlaces}

pub record IsBehind (s : Source) (names : List Name) (k : Kernel) (args : List RawArg) (sizes : RawSizes)
    (waive after : List ℕ) (b : Behind) : Type 0 where
  pub args_are : AreArgs s names args b.args.items
  pub cut_is : b.cut ≡ cut_of s sizes
  pub defer_is : IsDefer s names sizes b.defer
  pub waive_are : b.waive.items ≡ map (λ at. param_place k.params.items (text_at s at)) waive
  pub after_are : ArePlaces s names after b.after.items
