-- What 02 asks of a listing, as theorems about its promise: x is what the listing of y, with the limit τ and the room lent, leaves.
--
--   refused_leaves      a refusal's number is that of the first check that applies, 1 to 23, and the room is as lent
--   arrays, fitting     of a listing that is not refused: the arrays that fit
--   total               'it returns the total'; first-written, 'and writes the first ones that fit the lent room, the rest of that room
--                       unchanged'
--   lists_all           'It lists every code array within τ columns'; lists_only, and nothing else
--   in-turn             'smaller sets first and, among equal sizes, in dictionary order of their column numbers'
--   each_once           'each once'
--
-- 'Show that it agrees with the joint decoder': l is what any decoding of y, with the same code and limit, leaves.
--   corrected-first     'after "corrected" the list's first array is that answer and the only one of its size': all others are wrong in
--                       more columns
--   none_empty          'after "none" the list is empty'
--   safe_empty          'and at the safe limit or below it is empty after any ending but "corrected" and "refused"'
-- Assumes nothing.
use mathlib.Core.Path.{◌≡◌, refl, sym, ap, ◌∙◌, subst}
use mathlib.Core.Logic.{inl, inr}
use mathlib.Core.List.{List, [], ◌∷◌}
use Rattle.std.proofs.Common.{Ok}
use Prim.Native.Nat.{ℕ, suc, ◌≤◌, ◌<◌}
use native.Mathlib.Omega.{arith}
use lib.ListN.{length}
use Rattle.refusal.specs.Refusal.{first}
use Rattle.refusal.specs.Meaning.{refusal, number_of, detail_of}
use Rattle.refusal.specs.declared.Refusal.{Refusal}
use Rattle.refusal.proofs.Keeping as keeping
use Rattle.refusal.proofs.Ladders.{first_upto}
use Rattle.poly.specs.Poly.{All}
use Rattle.poly.proofs.Roots.{Mem, Distinct}
use Rattle.codes.specs.Code.{flags_of, wrong_count, safe_limit}
use Rattle.codes.specs.Factors.{Description, CodeArrayBy}
use Rattle.codes.specs.Near.{Nearest, Far}
use Rattle.ending.specs.declared.Ending.TheVariants.{Refused, Corrected, Nothing}
use Rattle.ending.proofs.WrongColumns.{all_mem}
use Rattle.joint.specs.Promises as joint
use Rattle.joint.proofs.Demands as joints
use Rattle.fitting.specs.Fitting.{Fitting}
use Rattle.fitting.proofs.Sets.{Sorted, Earlier}
use Rattle.fitting.proofs.Listed as listed
use Rattle.listing.specs.Checks.{list_checks}
use Rattle.listing.specs.Promises.{of_total, Left, left, refused, written, Lists}

module _ (D : Description) (τ : ℕ) (y room : List ℕ) (x : Left) (h : Lists D τ y room x) where
  abbrev Done : Left → Type 0
  Done x = (l : List (List ℕ)) × Fitting D τ y l × (x ≡ left (Ok (length l)) (written D.code l room))

  abbrev by : {P : Type 0} → (0 ≡ first (list_checks D τ y room) → Done x → P)
      → ((k : ℕ) → suc k ≡ first (list_checks D τ y room) → x ≡ refused room (suc k) → P) → P
  by = keeping.told (list_checks D τ y room) (refused room) Done x h

  pub refused_leaves : (k : ℕ) → x.answer ≡ refusal k
      → (k ≡ first (list_checks D τ y room)) × (1 ≤ k) × (k ≤ 23) × (x.room ≡ room)
  refused_leaves k e = by
      (λ z (l, f, is). absurd (omega (arith, ap number_of (sym (ap (λ (x : Left). x.answer) is) ∙ e))))
      (λ j z is.
      let same : suc j ≡ k = ap detail_of (sym (ap (λ (x : Left). x.answer) is) ∙ e) in (
        sym same ∙ z,
        omega arith,
        omega (arith, first_upto 23 (list_checks D τ y room) refl),
        ap (λ (x : Left). x.room) is,
      ))

  -- of a listing that is not refused
  module _ (t : ℕ) (is : x.answer ≡ of_total t) where
    done : Done x
    done = by (λ z d. d) (λ k z e. absurd (omega (arith, ap number_of (sym (ap (λ (x : Left). x.answer) e) ∙ is))))

    pub arrays : List (List ℕ)
    arrays = done.0

    pub fitting : Fitting D τ y arrays
    unfolding arrays
    fitting = done.1

    pub total : t ≡ length arrays
    unfolding arrays
    total = ap detail_of (sym is ∙ ap (λ (x : Left). x.answer) done.2)

    pub first-written : x.room ≡ written D.code arrays room
    unfolding arrays
    first-written = ap (λ (x : Left). x.room) done.2

    abbrev count : List ℕ → ℕ
    count a = wrong_count D.code y a

    abbrev place : List ℕ → List ℕ
    place a = flags_of D.code y a

    pub lists_all : (a : List ℕ) → CodeArrayBy D a → count a ≤ τ → Mem a arrays
    lists_all = listed.lists_all D τ y arrays fitting

    pub lists_only : All (λ (a : List ℕ). CodeArrayBy D a × (count a ≤ τ)) arrays
    lists_only = listed.lists_only D τ y arrays fitting

    pub in-turn : Sorted (λ (a b : List ℕ). Earlier (place a) (place b)) arrays
    in-turn = listed.in-turn D τ y arrays fitting

    pub each_once : Distinct arrays
    each_once = listed.each_once D τ y arrays fitting

-- ---- the arrays that fit, and what is near

module _ (D : Description) (τ : ℕ) (y : List ℕ) (l : List (List ℕ)) (f : Fitting D τ y l) where
  abbrev wrong : List ℕ → ℕ
  wrong a = wrong_count D.code y a

  far_empty : Far (CodeArrayBy D) wrong τ → l ≡ []
  far_empty far = go l (listed.lists_only D τ y l f)
    where
      go : (k : List (List ℕ)) → All (λ (a : List ℕ). CodeArrayBy D a × (wrong a ≤ τ)) k → k ≡ []
      go [] h = refl
      go (a ∷ k) h = absurd (omega (arith, far a h.0.0, h.0.1))

  -- the nearest array comes first, and every other is wrong in more columns
  module _ {w : ℕ} (a : List ℕ) (near : Nearest (CodeArrayBy D) wrong τ w a) where
    others : (k : List (List ℕ)) → ¬ Mem a k → All (λ (b : List ℕ). CodeArrayBy D b × (wrong b ≤ τ)) k → All (λ (b : List ℕ). w < wrong b) k
    others [] n h = tt
    others (b ∷ k) n h = (near.others b h.0.0 (λ e. n (inl (sym e))), others k (λ m. n (inr m)) h.1)

    no_more : (b : List ℕ) → Earlier (flags_of D.code y b) (flags_of D.code y a) → wrong b ≤ w
    no_more b (inl q) = omega (arith, near.wrong)
    no_more b (inr (e, q)) = omega (arith, near.wrong)

    nearest_first : (k : List (List ℕ)) × (l ≡ a ∷ k) × All (λ (b : List ℕ). w < wrong b) k
    nearest_first = go l (listed.in-turn D τ y l f) (listed.each_once D τ y l f) (listed.lists_only D τ y l f)
        (listed.lists_all D τ y l f a near.code (omega (arith, near.wrong, near.within)))
      where
        go : (l : List (List ℕ)) → Sorted (λ (a b : List ℕ). Earlier (flags_of D.code y a) (flags_of D.code y b)) l → Distinct l
            → All (λ (b : List ℕ). CodeArrayBy D b × (wrong b ≤ τ)) l → Mem a l
            → (k : List (List ℕ)) × (l ≡ a ∷ k) × All (λ (b : List ℕ). w < wrong b) k
        go [] s d o x4 = elim x4 [ ]
        go (b ∷ k) s d o (inl e) =
            (k, ap (λ (c : List ℕ). c ∷ k) (sym e), others k (λ m. d.0 (subst (λ (c : List ℕ). Mem c k) e m)) o.1)
        go (b ∷ k) s d o (inr m) = absurd (omega (
          arith,
          near.others b o.0.0 (λ e. d.0 (subst (λ (c : List ℕ). Mem c k) (sym e) m)),
          no_more b (all_mem (λ (c : List ℕ). Earlier (flags_of D.code y b) (flags_of D.code y c)) k a s.0 m),
        ))

-- ---- a decoding of what is listed, with the same code and limit

module _ (g : joint.Given) (l : joint.Left) (d : joint.Decodes g l) (room : List ℕ) (x : Left)
    (h : Lists g.description g.limit g.received room x) (t : ℕ) (is : x.answer ≡ of_total t) where
  abbrev D : Description
  D = g.description

  -- the arrays listed
  abbrev list : List (List ℕ)
  list = arrays D g.limit g.received room x h t is

  fits : Fitting D g.limit g.received list
  fits = fitting D g.limit g.received room x h t is

  pub corrected-first : (w : ℕ) → l.ending ≡ Corrected w
      → (k : List (List ℕ)) × (list ≡ l.buffers.array ∷ k) × All (λ (b : List ℕ). w < wrong_count D.code g.received b) k
  corrected-first w e = nearest_first D g.limit g.received list fits l.buffers.array (joints.corrected_nearest g l d w e).0

  pub none_empty : l.ending ≡ Nothing → list ≡ []
  none_empty e = far_empty D g.limit g.received list fits (joints.none_far g l d e)

  pub safe_empty : g.limit ≤ safe_limit D.code → ((r : Refusal) → ¬ (l.ending ≡ Refused r)) → ((w : ℕ) → ¬ (l.ending ≡ Corrected w))
      → list ≡ []
  safe_empty safe not_refused corrected = far_empty D g.limit g.received list fits
      (joints.safe_otherwise g l d safe (λ (r, e). not_refused r e) (λ (w, e). corrected w e))
