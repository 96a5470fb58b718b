-- The touches of one operation or one bind, as a list.
use Rattle.std.specs.Prelude.{List, [], ◌∷◌}
use Rattle.frame_core.specs.declared.touch.Touch.{Touch}
use Rattle.frame_core.specs.declared.touch.AtMostTwo.{AtMostTwo}
use Rattle.frame_core.specs.declared.touch.AtMostTwo.TheVariants.{Zero, One, Two}

abbrev pub listed : AtMostTwo → List Touch
listed Zero = []
listed (One t) = t ∷ []
listed (Two t u) = t ∷ u ∷ []
