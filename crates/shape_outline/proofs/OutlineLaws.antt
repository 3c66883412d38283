-- The faces and the price of an outline from what its parts come to. Assumes nothing.
use mathlib.Core.Path.{◌≡◌, refl, sym, ap, ap₂, subst, ◌∙◌}
use mathlib.Core.Bool.{Bool, true, false, cond, true≢false, false≢true}
use Prim.Native.Nat.{ℕ, ◌+◌, ◌-◌, ◌*◌, ◌≤◌, ◌<◌, ◌^◌}
use native.Mathlib.Omega.{arith}
use mathlib.Core.List.{List, [], ◌∷◌, ◌++◌, map}
use lib.ListN.{length}
use Rattle.lists.specs.Loops.{join, sum_of}
use Rattle.lists.proofs.Lists.{sum_append}
use Rattle.coords_vector.specs.declared.Vector.{Vector}
use Rattle.coords_vector.specs.Vectors.{zero_v}
use Rattle.object.specs.declared.Corner.{Corner}
use Rattle.scene_field.specs.Fields.{corners_at, counts_at, holes_at}
use Rattle.scene.specs.declared.headers.Body.TheVariants.{Outline}
use Rattle.scene.specs.Contract.Headers.{corner_count}
use Rattle.scene.proofs.Parts.{corners_length, holes_size, corners_count}
use Rattle.face.specs.declared.Tally.{Tally}
use Rattle.face.specs.Faces.{Face}
use Rattle.face.specs.declared.Canvas.{Canvas}
use Rattle.face.specs.Contract.Drawing.{drawing_on, Draws, CountableOn}
use Rattle.face.proofs.Counts.{count}
use Rattle.face.proofs.Canvases.{draws_countable}
use Rattle.lid_plane.specs.Plane.{lid_normal, about}
use Rattle.lid.specs.Lid.{lid_price}
use Rattle.lid.specs.Log.{log_numbers}
use Rattle.lid.proofs.Facts.{total, lid_triangles}
use Rattle.shape.specs.Shapes.{walls, outer_walls, hole_walls, all_corners, flat_of, outline_lid, has_height, log_of}
use Rattle.shape.specs.Contract.Stages.{four_stages, lid_face, floor_faces, outline_stages, stages_of, DrewStages}
use Rattle.shape.proofs.Canvases.{drawn_walls, drawn_lidded}
use Rattle.shape_outline.proofs.Cleared.{cleared}
use Rattle.shape.specs.declared.Drawn.{Drawn}
use Rattle.shape.specs.Contract.Drawn.{CanDraw, DrewObject}
use Rattle.shape.specs.Price.{offered, outline_price}
use Rattle.shape_outline_corners.specs.declared.OutlineAt.{OutlineAt}
use Rattle.shape_outline_corners.specs.Contract.Outlines.{corners_place, outline_shape, lid_at, Placed, OutlineHolds}
use Rattle.shape_outline_lid.specs.declared.faces.Capped.{Capped}
use Rattle.shape_outline_lid.specs.Contract.Caps.{DrewCap}
use Rattle.shape_outline.specs.Contract.Measures.{outline_in, walls_in}
use Rattle.shape.proofs.Sizes.{sum_lengths, outer_points, holes_points}
use Rattle.shape.proofs.Prices.{walls_count, holes_count}
use Rattle.shape_outline_lid.proofs.FlatLaws.{all_corners_lem}

outer_count : (closed : Bool) (cs : List Corner) (lid : Vector) → sum_of count (outer_walls closed cs lid) ≤ 2 * length cs
unfolding outer_walls
outer_count true cs lid = omega (arith, walls_count cs (about cs lid) (length cs))
outer_count false cs lid = omega (arith, walls_count cs zero_v (length cs - 1))

-- the outer walls by what they are square to and how many they are
pub few_edges : (closed : Bool) (n m : ℕ) → m ≡ cond closed n (n - 1) → m ≤ n
few_edges true n m e = omega arith
few_edges false n m e = omega arith

pub outer_drew : {normal : Vector} {m : ℕ} {c d : Canvas} (closed : Bool) (s : List ℕ) (n at : ℕ) (lid : Vector)
    → normal ≡ cond closed (about (corners_at s n at) lid) zero_v → m ≡ cond closed n (n - 1) → Draws (walls (corners_at s n at) normal m) c d
    → Draws (outer_walls closed (corners_at s n at) lid) c d
unfolding outer_walls
outer_drew {c = c} {d} true s n at lid p q =
    subst (λ (fs : List Face). Draws fs c d) (ap₂ (walls (corners_at s n at)) p (q ∙ sym (corners_length s n at)))
outer_drew {c = c} {d} false s n at lid p q =
    subst (λ (fs : List Face). Draws fs c d) (ap₂ (walls (corners_at s n at)) p (q ∙ ap (λ (k : ℕ). k - 1) (sym (corners_length s n at))))

-- what is answered of an open outline, and of a closed one
abbrev open_drawn : Tally → ℕ → Drawn
open_drawn t price = record { first = 1; after = t ∷ t ∷ t ∷ t ∷ t ∷ t ∷ []; offered = price; entries = 0 }

abbrev closed_drawn : Tally → Capped → Tally → Drawn
closed_drawn t r floor = record { first = 1; after = t ∷ r.lid ∷ floor ∷ floor ∷ floor ∷ floor ∷ []; offered = r.offered; entries = r.entries }

module _ (s : List ℕ) (i outer holes : ℕ) where
  abbrev pub outer_corners : List Corner
  outer_corners = corners_at s outer (corners_place i holes)

  abbrev pub holes_of : List (List Corner)
  holes_of = holes_at s (counts_at s holes (i + 4)) (corners_place i holes + 24 * outer)

  abbrev pub walls_of : Bool → Vector → List Face
  walls_of closed lid = outer_walls closed outer_corners lid ++ join (hole_walls lid) holes_of

  corners_all : corner_count s i outer holes ≡ length outer_corners + sum_of length holes_of
  corners_all = omega (arith, corners_length s outer (corners_place i holes), sum_lengths holes_of, ap total (holes_size s (counts_at s holes (i + 4)) (corners_place i holes + 24 * outer)))

  -- the lid and the floor can be counted behind the walls
  lid_countable : (c : Canvas) {b : Canvas} (closed : Bool) (lid : Vector) {n : ℕ} → 3 * c.before < 2 ^ 32 → Placed s i outer holes n
      → Draws (walls_of closed lid) (cleared c) b → CountableOn b 1024 1224
  lid_countable c closed lid h placed p =
      let start : CountableOn (cleared c) 3072 2248 = record { vertices = omega arith; kept = omega arith; thin = omega arith } in
      let walls = outer_walls closed outer_corners lid in
      let inner = join (hole_walls lid) holes_of in
      let e = corners_count s outer (corners_place i holes) (counts_at s holes (i + 4)) (corners_place i holes + 24 * outer) in
      draws_countable start p
      (omega (arith, sum_append (λ f. length f.points) walls inner, outer_points closed outer_corners lid, holes_points lid holes_of, e, placed.counted.total, placed.counted.most))
      (omega (arith, sum_append count walls inner, outer_count closed outer_corners lid, holes_count lid holes_of, sum_lengths holes_of, e, placed.counted.total, placed.counted.most))

  closed_offered : (high : Bool) (t : ℕ) → high ≡ has_height (corners_at s (corner_count s i outer holes) (corners_place i holes)) → t ≡ length (lid_at s i outer holes).triangles
      → 2 * (corner_count s i outer holes) + t + cond high t 0 ≡ offered (outline_shape s i true outer holes)
  unfolding offered outline_price
  closed_offered high t h e =
      let n = corner_count s i outer holes in
      let price = lid_price (flat_of outer_corners holes_of) (outline_lid outer_corners holes_of).log in
      let p : t ≡ price = e ∙ (unfold outline_lid in lid_triangles (flat_of outer_corners holes_of) (length outer_corners) (map length holes_of)) in
      let q : high ≡ has_height (all_corners outer_corners holes_of) = h ∙ ap has_height (sym (all_corners_lem s i outer holes)) in
      let g : cond high t 0 ≡ cond (has_height (all_corners outer_corners holes_of)) price 0 = ap₂ (λ (b : Bool) (x : ℕ). cond b x 0) q p in
      omega (arith, p, g, corners_all)

  -- an open outline, drawn on a canvas that was c
  module _ (c : Canvas) {n : ℕ} where
    open_object : (closed : Bool) {lid : Vector} {ls : List ℕ} {price : ℕ} {b : Canvas} → closed ≡ false → lid ≡ lid_normal outer_corners → n ≡ corner_count s i outer holes
        → Draws (walls_of closed lid) (cleared c) b → price ≡ 2 * (outer - 1) + 2 * (n - outer)
        → DrewObject c.limit (outline_shape s i closed outer holes) c.before c.vertices.now c.normals.now c.indices.now ls (open_drawn b.tally price) b.vertices.now b.normals.now b.indices.now ls
    unfolding stages_of outline_stages offered outline_price log_of log_numbers join
    open_object false f l e drew priced = record {
      first = refl;
      drew = rw l at (drawn_walls drew).drew;
      offered = omega (arith, priced, e, corners_length s outer (corners_place i holes), corners_all);
      entries = refl;
      log = refl;
    }
    open_object true f l e drew priced = absurd (true≢false f)

    -- a closed one, as the code has worked it out; its walls leave the canvas at b
    closed_object : (closed : Bool) {ls ls' : List ℕ} {r : Capped} {b d : Canvas} → closed ≡ true → n ≡ corner_count s i outer holes
        → Draws (walls_of closed (lid_normal outer_corners)) (cleared c) b → DrewCap s (outline_in s i closed outer holes n) b d ls ls' r
        → DrewObject c.limit (outline_shape s i closed outer holes) c.before c.vertices.now c.normals.now c.indices.now ls (closed_drawn b.tally r d.tally) d.vertices.now d.normals.now d.indices.now ls'
    unfolding stages_of outline_stages log_of
    closed_object true {ls} {ls'} {r} {b} {d} f e sides capped =
        let cap = subst (λ (m : ℕ). DrewCap s (outline_in s i true outer holes m) b d ls ls' r) e capped in
        let lid = lid_normal outer_corners in
        let told = corners_at s (corner_count s i outer holes) (corners_place i holes) in
        let ts = (lid_at s i outer holes).triangles in
        record {
          first = refl;
          drew =
              subst (λ (cs : List Corner). DrewStages c.limit (four_stages (walls_of true lid) (lid_face cs lid ts ∷ []) (floor_faces cs lid ts) []) c.before (drawing_on (cleared c)) (drawing_on d) (closed_drawn b.tally r d.tally).after)
              (sym (all_corners_lem s i outer holes)) (drawn_lidded told lid ts sides cap.drew).drew;
          offered = cap.offered ∙ closed_offered (has_height told) (length ts) refl refl;
          entries = cap.entries;
          log = cap.log;
        }
    closed_object false f e sides capped = absurd (false≢true f)

-- ---- the outline that the code has worked out

pub made : (s : List ℕ) (i : ℕ) (closed : Bool) (outer holes n : ℕ) (lid : Vector) (high : Bool) → lid ≡ lid_normal (corners_at s outer (corners_place i holes))
    → high ≡ cond closed (has_height (corners_at s n (corners_place i holes))) false
    → ◌≡◌ {A = OutlineAt} (record { i = i; at = corners_place i holes; outer = outer; holes = holes; n = n; lid = lid; high = high }) (outline_in s i closed outer holes n)
made s i closed outer holes n lid high l h = λ z. record {
  i = i;
  at = corners_place i holes;
  outer = outer;
  holes = holes;
  n = n;
  lid = l z;
  high = h z;
}

module _ (s : List ℕ) (i : ℕ) (closed : Bool) (outer holes n : ℕ) {o : OutlineAt} (e : o ≡ outline_in s i closed outer holes n) (placed : Placed s i outer holes n) where
  pub outline_holds : OutlineHolds s o
  outline_holds = subst (OutlineHolds s) (sym e) (record { placed = placed; place = refl; normal = refl })

  pub high_in : closed ≡ true → o.high ≡ has_height (corners_at s o.n o.at)
  high_in c =
      subst (λ (o : OutlineAt). o.high ≡ has_height (corners_at s o.n o.at)) (sym e)
      (ap (λ (b : Bool). cond b (has_height (corners_at s n (corners_place i holes))) false) c)

  pub countable_in : (c : Canvas) {b : Canvas} → 3 * c.before < 2 ^ 32 → Draws (walls_in s closed o) (cleared c) b → CountableOn b 1024 1224
  countable_in c {b} h p = lid_countable s i outer holes c closed _ h placed (subst (λ (o : OutlineAt). Draws (walls_in s closed o) (cleared c) b) e p)

  pub open_in : (c : Canvas) {ls : List ℕ} {price : ℕ} {b : Canvas} → closed ≡ false → Draws (walls_in s closed o) (cleared c) b → price ≡ 2 * (o.outer - 1) + 2 * (o.n - o.outer)
      → DrewObject c.limit (outline_shape s i closed outer holes) c.before c.vertices.now c.normals.now c.indices.now ls (open_drawn b.tally price) b.vertices.now b.normals.now b.indices.now ls
  open_in c {ls} {price} {b} f sides priced =
      subst (λ (o : OutlineAt). Draws (walls_in s closed o) (cleared c) b → price ≡ 2 * (o.outer - 1) + 2 * (o.n - o.outer)
      → DrewObject c.limit (outline_shape s i closed outer holes) c.before c.vertices.now c.normals.now c.indices.now ls (open_drawn b.tally price) b.vertices.now b.normals.now b.indices.now ls) (sym e)
      (λ drew offered. open_object s i outer holes c closed f refl placed.counted.total drew offered) sides priced

  pub closed_in : (c : Canvas) {ls ls' : List ℕ} {r : Capped} {b d : Canvas} → closed ≡ true → Draws (walls_in s closed o) (cleared c) b → DrewCap s o b d ls ls' r
      → DrewObject c.limit (outline_shape s i closed outer holes) c.before c.vertices.now c.normals.now c.indices.now ls (closed_drawn b.tally r d.tally) d.vertices.now d.normals.now d.indices.now ls'
  closed_in c {ls} {ls'} {r} {b} {d} f sides capped =
      subst (λ (o : OutlineAt). Draws (walls_in s closed o) (cleared c) b → DrewCap s o b d ls ls' r
      → DrewObject c.limit (outline_shape s i closed outer holes) c.before c.vertices.now c.normals.now c.indices.now ls (closed_drawn b.tally r d.tally) d.vertices.now d.normals.now d.indices.now ls') (sym e)
      (λ drew lid. closed_object s i outer holes c closed f placed.counted.total drew lid) sides capped

-- an outline that can be drawn is within the limits, at small places
pub can_place : (s : List ℕ) (i before : ℕ) (closed : Bool) (outer holes corners : ℕ) → CanDraw s i (Outline closed outer holes corners) before → Placed s i outer holes corners
can_place s i before closed outer holes corners c = record { counted = c.limits; inside = omega (arith, c.inside) }
