-- The account that the objects' lines are written from. Definitions only.
use Rattle.std.specs.Prelude.{◌≡◌, ℕ, List, ◌++◌, length}
use Rattle.float.specs.Number.{min_area}
use Rattle.object.specs.Object.{Object}
use Rattle.scene.specs.Scene.{scene, accepted}
use Rattle.scene.specs.Contract.Answers.{objects_of}
use Rattle.mesh.specs.Mesh.{accounts_of, account_numbers}

-- numbers that begin with the account of the objects
pub record Accounts (os : List Object) (numbers : List ℕ) : Type 0 where
  pub rest : List ℕ
  pub begins : numbers ≡ account_numbers (accounts_of min_area os) ++ rest

-- a scene of n objects and the numbers of their account
pub record Priced (s numbers : List ℕ) (n : ℕ) : Type 0 where
  pub is : scene s ≡ accepted (objects_of (scene s))
  pub count : n ≡ length (objects_of (scene s))
  pub account : Accounts (objects_of (scene s)) numbers
