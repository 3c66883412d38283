-- Values of `frame` that antt computes: a quarter turn about each axis, and all three together. Assumes nothing.
use mathlib.Core.Path.{◌≡◌, refl}
use mathlib.Core.Bool.{false}
use lib.IntN.{pos}
use lib.Ieee.{Float, fin, binary32, to_bits}
use Prim.Native.Nat.{ℕ}
use mathlib.Core.List.{List, [], ◌∷◌}
use Rattle.object.specs.declared.Pair.{Pair}
use Rattle.object.specs.Object.{frame}
use Rattle.float.proofs.Computes.{computes as float-computes}
use Rattle.object.proofs.Computes.{computes}

nought : Float
nought = fin false 0 (pos 0)

one : Float
one = fin false 1 (pos 0)

still : Pair
still = record { sin = nought; cos = one }

quarter : Pair
quarter = record { sin = one; cos = nought }

-- (1, 2, 4) in the network's axes, as bits
turned : Pair → Pair → Pair → List ℕ
turned h p r =
    let v = frame (record { heading = h; pitch = p; roll = r }) one (fin false 1 (pos 1)) (fin false 1 (pos 2)) in
    to_bits binary32 v.x ∷ to_bits binary32 v.y ∷ to_bits binary32 v.z ∷ []

heading_turns : turned quarter still still ≡ 0xc0000000 ∷ 0x3f800000 ∷ 0x40800000 ∷ []
unfolding turned nought one still quarter float-computes computes to_bits
heading_turns = refl

pitch_turns : turned still quarter still ≡ 0x40800000 ∷ 0x40000000 ∷ 0xbf800000 ∷ []
unfolding turned nought one still quarter float-computes computes to_bits
pitch_turns = refl

roll_turns : turned still still quarter ≡ 0x3f800000 ∷ 0xc0800000 ∷ 0x40000000 ∷ []
unfolding turned nought one still quarter float-computes computes to_bits
roll_turns = refl

-- roll first, then pitch, then heading
all_turn : turned quarter quarter quarter ≡ 0x40800000 ∷ 0x40000000 ∷ 0xbf800000 ∷ []
unfolding turned nought one still quarter float-computes computes to_bits
all_turn = refl
