-- A kernel that a raw kernel without faults is is a checked kernel.
use Rattle.std.proofs.Common.{◌≡◌, List, None}
use Rattle.frame_grammar.specs.declared.symbols.Event.{Event}
use Rattle.frame_ast.specs.declared.kernel.Kernel.{Kernel}
use Rattle.frame_ast.specs.Checked.{IsChecked}
use Rattle.kernel_raw.specs.declared.raw.RawKernel.{RawKernel}
use Rattle.kernel_raw.specs.RawEvents.{SpellsRaw}
use Rattle.kernel_code.specs.StaticFaults.{first_fault}
use Rattle.kernel_code.specs.Trees.{IsKernelOf}
use Rattle.kernel_code.proofs.Fitting.Kernels as fitting
use Rattle.kernel_code.proofs.Limits.Kernels as limits

pub checked : (events : List Event) (raw : RawKernel) (k : Kernel) (earlier : List Kernel) → SpellsRaw events raw → first_fault raw earlier ≡ None
    → IsKernelOf raw k → IsChecked k
checked events raw k earlier s h is = record {
  fits = fitting.fits events raw k earlier s h is;
  params = limits.params events raw k earlier s h is;
  widths = limits.widths events raw k earlier s h is;
  count = limits.count raw k earlier h is;
  locals = limits.locals raw k earlier h is;
  nodes = limits.nodes events raw k earlier s h is;
  depth = limits.depth events raw k earlier s h is;
}
