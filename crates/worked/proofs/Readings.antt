-- What the files draw.
use Rattle.std.proofs.Common.{◌≡◌, refl, [], ◌∷◌, Ok}
use Rattle.procedure.specs.Reading.{entry_here, ranged, asks, reading}
use Rattle.worked.specs.Files.{axle_file, apart_file, together_file, handing_over_file, either_file, guarded_file, wheels_file, waiting_file}
use Rattle.worked.specs.Drawn.{axle, sides, handing_over, either, guarded, wheels, waiting}

pub reads-axle : reading axle_file ≡ Ok axle
unfolding entry_here ranged asks
reads-axle = refl

pub reads-apart : reading apart_file ≡ Ok (sides [])
unfolding entry_here ranged asks
reads-apart = refl

pub reads-together : reading together_file ≡ Ok (sides (5 ∷ []))
unfolding entry_here ranged asks
reads-together = refl

pub reads-handing-over : reading handing_over_file ≡ Ok handing_over
unfolding entry_here ranged asks
reads-handing-over = refl

pub reads-either : reading either_file ≡ Ok either
unfolding entry_here ranged asks
reads-either = refl

pub reads-guarded : reading guarded_file ≡ Ok guarded
unfolding entry_here ranged asks
reads-guarded = refl

pub reads-wheels : reading wheels_file ≡ Ok wheels
unfolding entry_here ranged asks
reads-wheels = refl

pub reads-waiting : reading waiting_file ≡ Ok waiting
unfolding entry_here ranged asks
reads-waiting = refl
