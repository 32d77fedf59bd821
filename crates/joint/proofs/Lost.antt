-- Decoding with lost columns: its ends, from those of the remaining columns.
--
--   whole_ready      with nothing lost an array is ready to be decoded; rest_ready, so is what is left of one
--   found_ends       whatever it ends as, the remaining columns' decoding ends so
--   ends_unique      no two distinct ends
--   twos_merged      the flags, merged from those of the remaining columns; wrong_rest, how many of these are wrong
--   to-fill          the columns that are lost or wrong leave every row its coefficients, and elsewhere all is right
--   corrected_by     so that filling in gives the code array
--   others_by        any other ending, with the buffers that were lent; corrected_array, that one leaves an array
--   same_rest        received arrays that agree in the remaining columns end alike
--   none_ends        with nothing lost the table is that of 01; whole_of, whole_ends, an array is ready as a whole, and ends so
-- Assumes nothing.
use mathlib.Core.Path.{◌≡◌, refl, sym, ap, ◌∙◌, subst, subst₂}
use mathlib.Core.Logic.{◌↔◌}
use mathlib.Core.Bool.{Bool, false}
use mathlib.Core.List.{List, [], ◌∷◌}
use Prim.Native.Nat.{ℕ, zero, suc, ◌+◌, ◌≤◌, ◌<◌}
use native.Mathlib.Decide.{ℕ_discrete}
use native.Mathlib.Omega.{arith}
use lib.ListN.{length, get_or, replicate, length-replicate, get_or-replicate}
use lib.Seq.{ext_get_or}
use Rattle.refusal.specs.Refusal.{is_in}
use Rattle.codes.specs.Code.{Code, rows, columns, total, largest, IsArray, encoded, flag, flags_from, flags_of, wrong_count, differs_at}
use Rattle.codes.specs.Code.{joint_limit}
use Rattle.codes.specs.Lost.{lost_flags, right, core, core_of, wrong_among, twos_at, flags_lost}
use Rattle.codes.proofs.Parts.{all_map}
use Rattle.codes.proofs.Proper.{Proper}
use Rattle.codes.proofs.Passed.{Counts, largest-most}
use Rattle.codes.proofs.Limits.{Room, joint_room}
use Rattle.codes.proofs.Flags.{flags-length, flag_here, flag-right}
use Rattle.codes.proofs.Columns.{agree_exactly, Agree}
use Rattle.codes.proofs.Messages.{encoded_array, one_message}
use Rattle.codes.proofs.Right.{rank, rank_below, core-differs}
use Rattle.codes.proofs.Lost.{lost_length, core_few, core_proper, core_counts, core_array, encoded-core, full_message, core_none}
use Rattle.codes.proofs.Lost.{core_of_none, Remains}
use Rattle.ending.specs.Working.{Ready}
use Rattle.ending.specs.Endings.{Buffers, Corrects, Ends}
use Rattle.ending.specs.declared.Ending.{Ending}
use Rattle.ending.specs.declared.Ending.TheVariants.{Refused, Corrected, Nothing, Several, Hollow}
use Rattle.ending.proofs.Unique.{unique}
use Rattle.ending.proofs.Demands.{corrected_within}
use Rattle.ending.proofs.Model.{filled}
use Rattle.ending.proofs.ModelFilled.{filled_code}
use Rattle.finish.specs.Working.{zeros_in, put}
use Rattle.finish.proofs.Marks.{right-count, put_count, put_at, put_other, put-zeros, zeros_twice, zeros_at, zeros-flagged}
use Rattle.remaining.specs.Working.{merged, to_fill}
use Rattle.remaining.proofs.Fronts.{merged-count, fill_count}
use Rattle.joint.specs.Promises.{buffers}
use Rattle.joint.specs.Lost.{LostCorrects, LostEnds}
use Rattle.joint.specs.Working.{ReadyLost}

-- with nothing lost an array is ready to be decoded as it is
pub whole_ready : {c : Code} {τ : ℕ} {y : List ℕ} → Counts c → Proper c → IsArray c y → τ ≤ joint_limit c → ReadyLost c τ [] y
whole_ready {c} {τ} counts proper received limit = record {
  counts = counts;
  proper = proper;
  received = received;
  remain = record {
    lost = record { below = tt; distinct = tt };
    enough = subst (λ (d : Code). largest c.lengths ≤ columns d) (sym (core_none c))
        (largest-most (columns c) c.lengths proper.lengths);
    limit = subst (λ (d : Code). τ ≤ joint_limit d) (sym (core_none c)) limit;
  };
}

-- what is left of an array is ready to be decoded
pub rest_ready : {c : Code} {τ : ℕ} {L y : List ℕ} → ReadyLost c τ L y → Ready (core c L) (core_of c L y)
rest_ready {c} {τ} {L} r = record {
  counts = core_counts c L r.proper r.remain.enough r.counts;
  proper = core_proper c L r.proper r.remain.enough;
  received = core_array c L r.received;
}

-- the flags with twos, at a column

twos_count : (ls fs : List ℕ) → length fs ≡ length ls → length (twos_at ls fs) ≡ length ls
unfolding twos_at
twos_count [] fs e = refl
twos_count (l ∷ ls) [] e = absurd (omega arith)
twos_count (zero ∷ ls) (f ∷ fs) e = ap suc (twos_count ls fs (omega arith))
twos_count (suc l ∷ ls) (f ∷ fs) e = ap suc (twos_count ls fs (omega arith))

pub twos_left : (ls fs : List ℕ) (i : ℕ) → length fs ≡ length ls → i < length ls → get_or ls i 0 ≡ 0 → get_or (twos_at ls fs) i 0 ≡ get_or fs i 0
unfolding twos_at
twos_left [] fs i e q z = absurd (omega arith)
twos_left (l ∷ ls) [] i e q z = absurd (omega arith)
twos_left (zero ∷ ls) (f ∷ fs) zero e q z = refl
twos_left (suc l ∷ ls) (f ∷ fs) zero e q z = absurd (omega arith)
twos_left (zero ∷ ls) (f ∷ fs) (suc i) e q z = twos_left ls fs i (omega arith) (omega arith) z
twos_left (suc l ∷ ls) (f ∷ fs) (suc i) e q z = twos_left ls fs i (omega arith) (omega arith) z

pub twos_lost : (ls fs : List ℕ) (i : ℕ) → length fs ≡ length ls → i < length ls → ¬ (get_or ls i 0 ≡ 0) → get_or (twos_at ls fs) i 0 ≡ 2
unfolding twos_at
twos_lost [] fs i e q z = absurd (omega arith)
twos_lost (l ∷ ls) [] i e q z = absurd (omega arith)
twos_lost (zero ∷ ls) (f ∷ fs) zero e q z = absurd (z refl)
twos_lost (suc l ∷ ls) (f ∷ fs) zero e q z = refl
twos_lost (zero ∷ ls) (f ∷ fs) (suc i) e q z = twos_lost ls fs i (omega arith) (omega arith) z
twos_lost (suc l ∷ ls) (f ∷ fs) (suc i) e q z = twos_lost ls fs i (omega arith) (omega arith) z

right_twos : (ls fs : List ℕ) → right ls fs ≡ right ls (twos_at ls fs)
unfolding twos_at right
right_twos [] fs = refl
right_twos (l ∷ ls) [] = refl
right_twos (zero ∷ ls) (f ∷ fs) = ap (◌∷◌ f) (right_twos ls fs)
right_twos (suc l ∷ ls) (f ∷ fs) = right_twos ls fs

right-put : (ls vs l : List ℕ) → length l ≡ length ls → length vs ≡ total (zeros_in ls) → right ls (put ls vs l) ≡ vs
unfolding right put zeros_in total
right-put [] [] l e d = refl
right-put [] (v ∷ vs) l e d = absurd (omega arith)
right-put (m ∷ ls) vs [] e d = absurd (omega arith)
right-put (zero ∷ ls) [] (a ∷ l) e d = absurd (omega arith)
right-put (zero ∷ ls) (v ∷ vs) (a ∷ l) e d = ap (◌∷◌ v) (right-put ls vs l (omega arith) (omega arith))
right-put (suc m ∷ ls) vs (a ∷ l) e d = right-put ls vs l (omega arith) (omega arith)

twos_none : (f : ℕ → Bool) (i : ℕ) (fs : List ℕ) → ((j : ℕ) → f j ≡ false) → twos_at (flags_from f i (length fs)) fs ≡ fs
unfolding twos_at flags_from
twos_none f i [] h = refl
twos_none f i (a ∷ fs) h = rw (h i) (ap (◌∷◌ a) (twos_none f (suc i) fs h))

module _ (c : Code) (L : List ℕ) where
  abbrev n : ℕ
  n = columns c

  abbrev gone : List ℕ
  gone = lost_flags n L

  abbrev rest : Code
  rest = core c L

  -- the remaining columns are as many as the flags that are 0
  rest_count : columns rest ≡ total (zeros_in gone)
  rest_count = right-count gone c.points (sym (lost_length n L))

  module _ {y a : List ℕ} (received : IsArray c y) (answer : IsArray c a) where
    -- a remaining column differs exactly when it does among the rest
    pub rest_differs : (i : ℕ) → i < n → get_or gone i 0 ≡ 0
        → (rank gone i < columns rest) × (differs_at rest (core_of c L y) (core_of c L a) (rank gone i) ≡ differs_at c y a i)
    rest_differs i q z = (
      rank_below gone c.points i (sym (lost_length n L)) (omega (arith, lost_length n L)) z,
      core-differs gone n (lost_length n L) c.points refl i q z (rows c) y a received.count answer.count,
    )

    pub twos_merged : flags_lost (columns c) L (flags_of c y a) ≡ merged gone (flags_of rest (core_of c L y) (core_of c L a))
    unfolding merged
    twos_merged = ext_get_or 0 (flags_lost (columns c) L (flags_of c y a)) (put gone fs twos)
        (twos_count gone (flags_of c y a) (flags-length _ 0 n ∙ sym (lost_length n L))
        ∙ sym (put_count gone fs twos ∙ length-replicate (length gone) 2))
        (λ i q. at i (omega (
          arith,
          twos_count gone (flags_of c y a)
              (flags-length (differs_at c y a) 0 n ∙ sym (lost_length n L)),
          lost_length n L,
        )) (ℕ_discrete (get_or gone i 0) 0))
      where
        fs : List ℕ
        fs = flags_of rest (core_of c L y) (core_of c L a)

        twos : List ℕ
        twos = replicate (length gone) 2

        enough : total (zeros_in gone) ≤ length fs
        enough = omega (arith, flags-length (differs_at rest (core_of c L y) (core_of c L a)) 0 (columns rest), rest_count)

        at : (i : ℕ) → i < n → Dec (get_or gone i 0 ≡ 0) → get_or (flags_lost (columns c) L (flags_of c y a)) i 0 ≡ get_or (put gone fs twos) i 0
        at i q (yes z) =
            let d = rest_differs i q z in
            twos_left gone (flags_of c y a) i (flags-length _ 0 n ∙ sym (lost_length n L)) (omega (arith, lost_length n L)) z
            ∙ flag_here (differs_at c y a) n i q
            ∙ ap flag (sym d.1)
            ∙ sym (put_at gone fs twos i (length-replicate (length gone) 2) (omega (arith, lost_length n L)) enough z
            ∙ flag_here (differs_at rest (core_of c L y) (core_of c L a)) (columns rest) (rank gone i) d.0)
        at i q (no z) =
            twos_lost gone (flags_of c y a) i (flags-length _ 0 n ∙ sym (lost_length n L)) (omega (arith, lost_length n L)) z
            ∙ sym (put_other gone fs twos i (length-replicate (length gone) 2) (omega (arith, lost_length n L)) enough z
            ∙ get_or-replicate (length gone) i 2 0 (omega (arith, lost_length n L)))

    -- the flags of the remaining columns are those of the rest
    rest_flags : right gone (flags_of c y a) ≡ flags_of rest (core_of c L y) (core_of c L a)
    unfolding merged
    rest_flags =
        right_twos gone (flags_of c y a)
        ∙ ap (right gone) twos_merged
        ∙ right-put gone (flags_of rest (core_of c L y) (core_of c L a)) (replicate (length gone) 2) (length-replicate (length gone) 2)
        (flags-length _ 0 (columns rest) ∙ rest_count)

    pub wrong_rest : wrong_count rest (core_of c L y) (core_of c L a) ≡ wrong_among (columns c) L (flags_of c y a)
    wrong_rest = ap total (sym rest_flags)

  module _ (p : Proper c) {τ : ℕ} (r : Remains c τ L) where
    abbrev rest_proper : Proper rest
    rest_proper = core_proper c L p r.enough

    module _ {y : List ℕ} (received : IsArray c y) where
      rest_received : IsArray rest (core_of c L y)
      rest_received = core_array c L received

      -- from the end of the remaining columns' decoding

      module _ {w : ℕ} {found : Buffers} (h : Corrects rest (core_of c L y) τ w found) where
        abbrev a : List ℕ
        a = encoded c h.m

        answer : IsArray c a
        answer = encoded_array p (full_message c L p h.message)

        -- the array found is what is left of the answer
        found_rest : found.array ≡ core_of c L a
        found_rest = h.array ∙ encoded-core c L p h.m

        found_flags : found.flags ≡ flags_of rest (core_of c L y) (core_of c L a)
        found_flags = h.flags ∙ ap (flags_of rest (core_of c L y)) found_rest

        abbrev pub marks : List ℕ
        marks = merged gone found.flags

        flags_are : marks ≡ flags_lost (columns c) L (flags_of c y a)
        flags_are = ap (merged gone) found_flags ∙ sym (twos_merged received answer)

        wrong_count_lem : total found.flags ≡ w
        wrong_count_lem = ap total h.flags ∙ sym h.detail

        pub found-count : length found.flags ≡ total (zeros_in gone)
        found-count = ap length h.flags ∙ flags-length _ 0 (columns rest) ∙ rest_count

        marks_count : length marks ≡ n
        marks_count = merged-count gone found.flags ∙ lost_length n L

        filled_count : total (to_fill marks) + columns rest ≡ n + w
        unfolding merged to_fill
        filled_count =
            let own : zeros_in (zeros_in found.flags) ≡ found.flags =
            rw h.flags (zeros-flagged (differs_at rest (core_of c L y) found.array) 0 (columns rest)) in
            omega (
              arith,
              zeros_twice (put gone found.flags (replicate (length gone) 2)),
              put-zeros 1 gone found.flags found-count,
              zeros_twice found.flags,
              ap total own,
              wrong_count_lem,
              found-count,
              rest_count,
              marks_count,
            )

        pub fill_room : Room n (total (to_fill marks)) c.lengths
        fill_room = all_map (λ (k : ℕ). k + w ≤ columns rest) (λ (k : ℕ). k + total (to_fill marks) ≤ n) c.lengths
            (λ k q. omega (arith, filled_count, core_few c L))
            (joint_room rest_proper (omega (arith, corrected_within rest_proper rest_received τ h, r.limit)))

        agrees : (i : ℕ) → i < n → get_or (to_fill marks) i 0 ≡ 0 → Agree (rows c) n i y a
        unfolding merged to_fill
        agrees i q e = go (zeros_at marks i (omega (arith, marks_count)) e) (ℕ_discrete (get_or gone i 0) 0)
          where
            fs : List ℕ
            fs = found.flags

            twos : List ℕ
            twos = replicate (length gone) 2

            go : get_or (put gone fs twos) i 0 ≡ 0 → Dec (get_or gone i 0 ≡ 0) → Agree (rows c) n i y a
            go z (yes g) =
                let d = rest_differs received answer i q g in
                let flagged : get_or found.flags (rank gone i) 0 ≡ 0 =
                sym (put_at gone fs twos i (length-replicate (length gone) 2) (omega (arith, lost_length n L))
                (omega (arith, found-count)) g) ∙ z in
                (agree_exactly (rows c) n i y a).0
                (sym d.1 ∙ flag-right (differs_at rest (core_of c L y) (core_of c L a)) (columns rest) (rank gone i) d.0
                (rw found_flags at flagged))
            go z (no g) = absurd (omega (
              arith,
              put_other gone fs twos i (length-replicate (length gone) 2) (omega (arith, lost_length n L)) (omega (arith, found-count)) g,
              get_or-replicate {A = ℕ} (length gone) i 2 0 (omega (arith, lost_length n L)),
            ))

        pub filled_is : filled c y (to_fill marks) ≡ a
        filled_is = filled_code p received (full_message c L p h.message) (to_fill marks)
            (fill_count marks ∙ marks_count) fill_room agrees

        pub corrected_by : LostCorrects c L y τ w (buffers (filled c y (to_fill marks)) marks)
        corrected_by = record {
          found = found;
          corrects = h;
          array = filled_is;
          flags = flags_are ∙ ap (λ (a : List ℕ). flags_lost (columns c) L (flags_of c y a)) (sym filled_is);
        }

      -- the decoding of the remaining columns ends alike
      pub found_ends : (lent : Buffers) (e : Ending) (left : Buffers) → LostEnds c L y τ lent e left → (b : Buffers)
          × Ends rest (core_of c L y) τ lent e b
      found_ends lent (Refused r) left h = absurd h
      found_ends lent (Corrected w) left h = (h.found, h.corrects)
      found_ends lent Nothing left h = (left, h)
      found_ends lent (Several t) left h = (left, h)
      found_ends lent (Hollow t) left h = (left, h)

      same_left : (lent : Buffers) (e : Ending) (x x' : Buffers) → LostEnds c L y τ lent e x → LostEnds c L y τ lent e x' → x ≡ x'
      same_left lent (Refused r) x x' h h' = absurd h
      same_left lent (Corrected w) x x' h h' =
          let one = (unique rest_proper rest_received τ r.limit (Corrected w) (Corrected w) lent h.found h'.found h.corrects
          h'.corrects).1 in
          let m : h.corrects.m ≡ h'.corrects.m = one_message rest_proper h.corrects.message h'.corrects.message
          (sym h.corrects.array ∙ ap (λ (b : Buffers). b.array) one ∙ h'.corrects.array) in
          let array : x.array ≡ x'.array = h.array ∙ ap (encoded c) m ∙ sym h'.array in
          let flags = h.flags ∙ ap (λ (a : List ℕ). flags_lost (columns c) L (flags_of c y a)) array ∙ sym h'.flags in
          λ i. record { array = array i; flags = flags i }
      same_left lent Nothing x x' h h' = h.1 ∙ sym h'.1
      same_left lent (Several t) x x' h h' = h.2 ∙ sym h'.2
      same_left lent (Hollow t) x x' h h' = h.2 ∙ sym h'.2

      pub ends_unique : (lent : Buffers) (e e' : Ending) (x x' : Buffers) → LostEnds c L y τ lent e x → LostEnds c L y τ lent e' x'
          → (e ≡ e') × (x ≡ x')
      ends_unique lent e e' x x' h h' =
          let b = found_ends lent e x h in
          let b' = found_ends lent e' x' h' in
          let same = (unique rest_proper rest_received τ r.limit e e' lent b.0 b'.0 b.1 b'.1).0 in
          (same, same_left lent e' x x' (subst (λ (e : Ending). LostEnds c L y τ lent e x) same h) h')

  pub corrected_array : Proper c → {y : List ℕ} {τ w : ℕ} {left : Buffers} → LostCorrects c L y τ w left → IsArray c left.array
  corrected_array p h = subst (IsArray c) (sym h.array) (encoded_array p (full_message c L p h.corrects.message))

  -- any other ending than 'corrected' leaves whatever buffers were lent
  pub others_by : (y : List ℕ) (τ : ℕ) (lent left : Buffers) (e : Ending) → ((w : ℕ) → ¬ (e ≡ Corrected w))
      → Ends rest (core_of c L y) τ lent e left → (b : Buffers) → LostEnds c L y τ b e b
  others_by y τ lent left (Refused r) o h b = absurd h
  others_by y τ lent left (Corrected w) o h b = absurd (o w refl)
  others_by y τ lent left Nothing o h b = (h.0, refl)
  others_by y τ lent left (Several t) o h b = (h.0, h.1, refl)
  others_by y τ lent left (Hollow t) o h b = (h.0, h.1, refl)

  -- 'Received symbols in lost columns have no influence'
  pub same_rest : Proper c → {y y' : List ℕ} → IsArray c y → IsArray c y' → core_of c L y ≡ core_of c L y'
      → (τ : ℕ) (lent : Buffers) (e : Ending) (left : Buffers) → LostEnds c L y τ lent e left → LostEnds c L y' τ lent e left
  same_rest p {y} {y'} i i' s τ lent (Refused r) left h = absurd h
  same_rest p {y} {y'} i i' s τ lent (Corrected w) left h =
      let (corrects, array) = subst (λ (z : List ℕ). (k : Corrects rest z τ w h.found) × (left.array ≡ encoded c k.m)) s
      (h.corrects, h.array) in
      let answer : IsArray c left.array = corrected_array p h in
      record {
        found = h.found;
        corrects = corrects;
        array = array;
        flags = h.flags ∙ twos_merged i answer
            ∙ ap (λ (z : List ℕ). merged gone (flags_of rest z (core_of c L left.array))) s
            ∙ sym (twos_merged i' answer);
      }
  same_rest p {y} {y'} i i' s τ lent Nothing left h = subst (λ (z : List ℕ). Ends rest z τ lent Nothing left) s h
  same_rest p {y} {y'} i i' s τ lent (Several t) left h = subst (λ (z : List ℕ). Ends rest z τ lent (Several t) left) s h
  same_rest p {y} {y'} i i' s τ lent (Hollow t) left h = subst (λ (z : List ℕ). Ends rest z τ lent (Hollow t) left) s h

-- with nothing lost

module _ (c : Code) {y : List ℕ} (received : IsArray c y) (τ : ℕ) (lent left : Buffers) where
  rest_none : (e : Ending) (b : Buffers) → Ends (core c []) (core_of c [] y) τ lent e b ↔ Ends c y τ lent e b
  rest_none e b = (
    subst₂ (λ (d : Code) (z : List ℕ). Ends d z τ lent e b) (core_none c) (core_of_none c received),
    subst₂ (λ (d : Code) (z : List ℕ). Ends d z τ lent e b) (sym (core_none c)) (sym (core_of_none c received)),
  )

  flags_none : (a : List ℕ) → flags_lost (columns c) [] (flags_of c y a) ≡ flags_of c y a
  unfolding is_in
  flags_none a =
      ap (λ (m : ℕ). twos_at (lost_flags m []) (flags_of c y a)) (sym (flags-length (differs_at c y a) 0 (columns c)))
      ∙ twos_none (λ i. is_in i []) 0 (flags_of c y a) (λ j. refl)

  encoded_none : (m : List ℕ) → encoded (core c []) m ≡ encoded c m
  encoded_none m = ap (λ (d : Code). encoded d m) (core_none c)

  pub none_ends : (e : Ending) → LostEnds c [] y τ lent e left ↔ Ends c y τ lent e left
  none_ends (Refused r) = (λ h. h, λ h. h)
  none_ends (Corrected w) = (to, from)
    where
      to : LostCorrects c [] y τ w left → Corrects c y τ w left
      to h =
          let whole : Corrects c y τ w h.found = (rest_none (Corrected w) h.found).0 h.corrects in
          let array : h.found.array ≡ left.array = h.corrects.array ∙ encoded_none h.corrects.m ∙ sym h.array in
          let flags : h.found.flags ≡ left.flags = whole.flags ∙ ap (flags_of c y) array ∙ sym (h.flags ∙ flags_none left.array) in
          subst (Corrects c y τ w) (λ i. record { array = array i; flags = flags i }) whole

      from : Corrects c y τ w left → LostCorrects c [] y τ w left
      from h =
          let g : Corrects (core c []) (core_of c [] y) τ w left = (rest_none (Corrected w) left).1 h in
          record {
            found = left;
            corrects = g;
            array = g.array ∙ encoded_none g.m;
            flags = h.flags ∙ sym (flags_none left.array);
          }
  none_ends Nothing = rest_none Nothing left
  none_ends (Several t) = rest_none (Several t) left
  none_ends (Hollow t) = rest_none (Hollow t) left

-- so an array of which nothing is lost is ready as a whole, and ends as one
module _ {c : Code} {τ : ℕ} {L y : List ℕ} (r : ReadyLost c τ L y) (none : [] ≡ L) where
  pub whole_of : Ready c y × (τ ≤ joint_limit c)
  whole_of = (
    record { counts = r.counts; proper = r.proper; received = r.received },
    subst (λ (k : Code). τ ≤ joint_limit k) (ap (core c) (sym none) ∙ core_none c) r.remain.limit,
  )

  pub whole_ends : (lent left : Buffers) (e : Ending) → Ends c y τ lent e left → LostEnds c L y τ lent e left
  whole_ends lent left e h =
      subst (λ (L : List ℕ). LostEnds c L y τ lent e left) none ((none_ends c r.received τ lent left e).1 h)
