-- The lists of blocks, and the classes that keep the blocks' numbers.
use Rattle.std.proofs.Common.{◌≡◌, ◌≢◌, ℕ, zero, suc, ◌+◌, ◌-◌, ◌<◌, ◌≤◌, Bool, true, false, nat_eq, nat_lt, List, [], ◌∷◌, ◌++◌, length, slice_index_or, slice_set, take, filter, All, Contains, Vec, Some, None, refl, sym, ◌∙◌, ap, subst, arith, inl, inr}
use Rattle.std.specs.Prelude.{slice_index, ◌⊎◌, ◌&&◌}
use Rattle.std.specs.List.{swap_remove}
use Rattle.std.specs.List.Sorted.{IsPermutation, IsStrictlyIncreasing}
use Rattle.std.specs.declared.alloc.Global.{Global}
use Rattle.std.proofs.lemmas.Bool.{cases_eq, lt-ltb}
use Rattle.std.proofs.lemmas.List.{get_or-set_same, get_or-set_other, get_or_default, get_or-take, length-take}
use Rattle.std.proofs.lemmas.List.Elements.{All-contains, All-filter, All-push, All-weaker, All-get_or, filter_passes, Contains-get_or, Contains-append_left, Contains-push}
use Rattle.std.proofs.lemmas.List.Sorted.{IsPermutation-swap_remove, IsPermutation-sym, All-permutation, Contains-permutation}
use Rattle.std.proofs.Math.ListN.{length-set}
use Rattle.refine_partition.specs.Kept.{is_numbered}
use Rattle.refine_partition.specs.Members.{AreBlocks, AreBlockMembers}
use Rattle.refine_partition.specs.ClassNames.{ClassNames, class_name}
use Rattle.refine_partition.specs.Loose.{AreListed, AreUsed, AreFiner, HasMember, IsStillListed, IsStayingClass, IsStaying, IsNamedAs, AreStaying}
use Rattle.refine_partition.proofs.QueueLemmas.{rising}
use Rattle.refine_partition.proofs.MemberLemmas.{same_test, test_same, filter_contains, Contains-cons, members_all, member}

-- what holds while the first routers of a list were looked at: they are members that edges reach
pub record Looking (numbers classes old list : List ℕ) (block place : ℕ) : Type 0 where
  pub within : place ≤ length list
  pub routers : All (λ u. u < length numbers) list
  pub members : (u : ℕ) → Contains old u → slice_index numbers u ≡ block → Contains list u
  pub only : (u : ℕ) → Contains list u → Contains old u
  pub looked : (i : ℕ) → i < place → (slice_index numbers (slice_index list i) ≡ block) × (slice_index classes (slice_index list i) ≢ block)

pub looking_start : (numbers classes old : List ℕ) (block : ℕ) → All (λ u. u < length numbers) old → Looking numbers classes old old block 0
looking_start numbers classes old block routers = record {
  within = omega arith;
  routers = routers;
  members = λ u found is. found;
  only = λ u found. found;
  looked = λ i less. absurd (omega arith);
}

not_first : (gone u : ℕ) (list : List ℕ) → gone ≢ u → Contains (gone ∷ list) u → Contains list u
not_first gone u list ne (zero, inside, at) = absurd (ne at)
not_first gone u list ne (suc k, inside, at) = (k, omega arith, at)

-- a router that has left the block is dropped
pub looking_dropped : (numbers classes old list list' : List ℕ) (block place gone : ℕ) → Looking numbers classes old list block place → place < length list →
    gone ≡ slice_index_or list place gone → list' ≡ swap_remove list place gone → slice_index numbers gone ≢ block →
    Looking numbers classes old list' block place
looking_dropped numbers classes old list list' block place gone looking inside read items left =
    let last : ℕ = slice_index_or list (length list - 1) gone in
    let size : length list' + 1 ≡ length list = let taken = ap length items ∙ length-take (length list - 1) (slice_set list place last) in let set =
    length-set list place last in omega arith in
    let same : (k : ℕ) → k ≢ place → k + 1 < length list → slice_index list' k ≡ slice_index list k = λ k ne less.
    ap (λ (xs : List ℕ). slice_index xs k) items ∙ get_or-take (length list - 1) (slice_set list place last) k 0 (omega arith)
    ∙ get_or-set_other list place k last 0 ne in
    let moved : IsPermutation list (gone ∷ list') =
    subst (λ (xs : List ℕ). IsPermutation list (gone ∷ xs)) (sym items) (IsPermutation-swap_remove list place gone inside read) in
    let all : All (λ u. u < length numbers) (gone ∷ list') = All-permutation (λ u. u < length numbers) list (gone ∷ list') moved looking.routers in
    record {
      within = omega arith;
      routers = λ k d within. all (suc k) d (omega arith);
      members = λ u found is. not_first gone u list' (λ e. left (ap (slice_index numbers) e ∙ is))
          (Contains-permutation list (gone ∷ list') u moved (looking.members u found is));
      only = λ u found. looking.only u (Contains-permutation (gone ∷ list') list u (IsPermutation-sym list (gone ∷ list') moved)
          (Contains-cons gone list' u found));
      looked = λ i less.
          let at : slice_index list' i ≡ slice_index list i = same i (λ e. omega arith) (omega arith) in
          let was = looking.looked i less in
          (ap (slice_index numbers) at ∙ was.0, λ e. was.1 (ap (slice_index classes) (sym at) ∙ e));
    }

-- a member that edges reach stays in the list
pub looking_more : (numbers classes old list : List ℕ) (block place router : ℕ) → Looking numbers classes old list block place → place < length list →
    slice_index list place ≡ router → slice_index numbers router ≡ block → slice_index classes router ≢ block →
    Looking numbers classes old list block (place + 1)
looking_more numbers classes old list block place router looking inside at is other = record {
  within = omega arith;
  routers = looking.routers;
  members = looking.members;
  only = looking.only;
  looked = λ i less. elim (cases_eq i place) [
    | inl e ↦
        let at' : slice_index list i ≡ router = ap (slice_index list) e ∙ at in
        (ap (slice_index numbers) at' ∙ is, λ e'. other (ap (slice_index classes) (sym at') ∙ e'))
    | inr ne ↦ looking.looked i (omega arith)
  ];
}

pub still_listed : (numbers classes old list : List ℕ) (block place : ℕ) → Looking numbers classes old list block place → IsStillListed numbers block old list
still_listed numbers classes old list block place looking = record { routers = looking.routers; members = looking.members }

-- a member that no edge reaches
pub looking_found : (numbers classes old list : List ℕ) (block place router : ℕ) → Looking numbers classes old list block place → place < length list →
    slice_index list place ≡ router → slice_index numbers router ≡ block → slice_index classes router ≡ block → IsStayingClass numbers classes block old block
looking_found numbers classes old list block place router looking inside at is class = record {
  member = (router, looking.only router (subst (Contains list) at (Contains-get_or list place 0 inside)), is, class);
  all_left = λ ne. absurd (ne refl);
}

-- a list that still has a member
pub looking_some : (numbers classes old list : List ℕ) (block place : ℕ) → Looking numbers classes old list block place → HasMember numbers block old →
    0 < length list
looking_some numbers classes old list block place looking (u, found, is) =
    let (k, inside, at) = looking.members u found is in omega arith

-- edges reach all members
pub looking_end : (numbers classes old list : List ℕ) (block place class : ℕ) → Looking numbers classes old list block place → length list ≤ place →
    HasMember numbers block old → slice_index classes (slice_index list 0) ≡ class → IsStayingClass numbers classes block old class
looking_end numbers classes old list block place class looking all some is =
    let more = looking_some numbers classes old list block place looking some in
    let first = looking.looked 0 (omega arith) in
    record {
      member = (slice_index list 0, looking.only (slice_index list 0) (Contains-get_or list 0 0 more), first.0, is);
      all_left = λ ne u found in_block class_is.
          let (k, inside, at) = looking.members u found in_block in
          let at' : slice_index list k ≡ u = get_or_default list k 0 u inside ∙ at in
          (looking.looked k (omega arith)).1 (ap (slice_index classes) at' ∙ class_is);
    }

-- the list of one block is another, which still has its members
pub listed_set : (numbers : List ℕ) (lists : List (Vec ℕ Global)) (block : ℕ) (list list' : Vec ℕ Global) → AreListed numbers lists → block < length lists →
    list ≡ slice_index_or lists block list → IsStillListed numbers block list.items list'.items → AreListed numbers (slice_set lists block list')
listed_set numbers lists block list list' listed known read still =
    let size = length-set lists block list' in
    record {
      below = All-weaker (λ n. n < length lists) (λ n. n < length (slice_set lists block list')) (λ n lt. omega arith) numbers listed.below;
      routers = λ b d inside. elim (cases_eq b block) [
        | inl e ↦
            let here : slice_index_or (slice_set lists block list') b d ≡ list' = ap (λ i. slice_index_or (slice_set lists block list') i d) e
            ∙ get_or-set_same lists block list' d known in
            rw here still.routers
        | inr ne ↦ rw (get_or-set_other lists block b list' d ne) (listed.routers b d (omega arith))
      ];
      members = λ u d hu. elim (cases_eq (slice_index numbers u) block) [
        | inl e ↦
            let here : slice_index_or (slice_set lists block list') (slice_index numbers u) d ≡ list' =
            ap (λ i. slice_index_or (slice_set lists block list') i d) e ∙ get_or-set_same lists block list' d known in
            let was : Contains list.items u = subst (λ (v : Vec ℕ Global). Contains v.items u) (ap (λ i. slice_index_or lists i list) e ∙ sym read)
            (listed.members u list hu) in
            rw here (still.members u was e)
        | inr ne ↦ rw (get_or-set_other lists block (slice_index numbers u) list' d ne) (listed.members u d hu)
      ];
    }

pub has_member : (numbers : List ℕ) (lists : List (Vec ℕ Global)) (block : ℕ) (list : Vec ℕ Global) → AreListed numbers lists → AreUsed (length lists) numbers →
    block < length lists → list ≡ slice_index_or lists block list → HasMember numbers block list.items
has_member numbers lists block list listed used known read =
    let (u, hu, is) = used block known in
    (u, subst (λ (v : Vec ℕ Global). Contains v.items u) (ap (λ i. slice_index_or lists i list) is ∙ sym read) (listed.members u list hu), is)

pub routers_of : (numbers : List ℕ) (lists : List (Vec ℕ Global)) (block : ℕ) (list : Vec ℕ Global) → AreListed numbers lists → block < length lists →
    list ≡ slice_index_or lists block list → All (λ u. u < length numbers) list.items
routers_of numbers lists block list listed known read =
    subst (λ (v : Vec ℕ Global). All (λ u. u < length numbers) v.items) (sym read) (listed.routers block list known)

staying_of : (numbers classes : List ℕ) (lists : List (Vec ℕ Global)) (block class : ℕ) (list : Vec ℕ Global) → AreListed numbers lists → block < length lists →
    list ≡ slice_index_or lists block list → IsStayingClass numbers classes block list.items class → IsStaying numbers classes block class
staying_of numbers classes lists block class list listed known read staying =
    let (u, found, is, has) = staying.member in
    record {
      member = (u, All-contains (λ w. w < length numbers) list.items u (routers_of numbers lists block list listed known read) found, is, has);
      all_left = λ ne w hw in_block. staying.all_left ne w
          (subst (λ (v : Vec ℕ Global). Contains v.items w) (ap (λ i. slice_index_or lists i list) in_block ∙ sym read) (listed.members w list hw)) in_block;
    }

-- the class of one more block, which is none of the earlier ones
pub staying_more : (numbers classes blocks : List ℕ) (lists : List (Vec ℕ Global)) (names names' : ClassNames) (block class : ℕ) (list : Vec ℕ Global) →
    AreStaying numbers classes blocks names → AreFiner numbers classes → ¬ Contains blocks block → AreListed numbers lists → block < length lists →
    list ≡ slice_index_or lists block list → IsStayingClass numbers classes block list.items class → IsNamedAs names names' class block →
    AreStaying numbers classes (blocks ++ block ∷ []) names'
staying_more numbers classes blocks lists names names' block class list are finer new listed known read staying named =
    let own : IsStaying numbers classes block class = staying_of numbers classes lists block class list listed known read staying in
    let (u, hu, is, has) = own.member in
    let by_class : (a n : ℕ) → class_name names' a ≡ Some n → ((a ≡ class) × (n ≡ block)) ⊎ ((a ≢ class) × (class_name names a ≡ Some n)) =
    λ a n found. elim (cases_eq a class) [
      | inl e ↦ inl (e, let found' = ap (λ i. class_name names' i) (sym e) ∙ found in let named' = named.named in cc)
      | inr ne ↦ inr (ne, sym (named.others a ne) ∙ found)
    ] in
    let no_other : (a : ℕ) → class_name names a ≡ Some block → ⊥ = λ a found. new (are.only a block found).0 in
    record {
      only = λ a n found. elim (by_class a n found) [
        | inl e ↦ (
          subst (Contains (blocks ++ block ∷ [])) (sym e.1) (Contains-push blocks block),
          subst (λ b. IsStaying numbers classes b a) (sym e.1) (subst (IsStaying numbers classes block) (sym e.0) own),
        )
        | inr o ↦ let was = are.only a n o.1 in (Contains-append_left blocks (block ∷ []) n was.0, was.1)
      ];
      one = λ a b n first second. elim (by_class a n first) [
        | inl e ↦ elim (by_class b n second) [
          | inl e' ↦ e.0 ∙ sym e'.0
          | inr o' ↦ absurd (no_other b (o'.1 ∙ ap (λ m. Some m) e.1))
        ]
        | inr o ↦ elim (by_class b n second) [
          | inl e' ↦ absurd (no_other a (o.1 ∙ ap (λ m. Some m) e'.1))
          | inr o' ↦ are.one a b n o.1 o'.1
        ]
      ];
      each = All-push (λ b. (c : ℕ) × (class_name names' c ≡ Some b)) blocks block
          (All-weaker (λ b. (c : ℕ) × (class_name names c ≡ Some b)) (λ b. (c : ℕ) × (class_name names' c ≡ Some b)) (λ b (c, found). elim (cases_eq c class) [
            | inl e ↦
                let (w, hw, at, class_is) = (are.only c b found).1.member in
                let same : b ≡ block = sym at ∙ finer w u hw hu (class_is ∙ e ∙ sym has) ∙ is in
                (class, named.named ∙ ap (λ m. Some m) (sym same))
            | inr ne ↦ (c, named.others c ne ∙ found)
          ]) blocks are.each)
          (class, named.named);
    }

pub staying_none : (numbers classes blocks : List ℕ) (names : ClassNames) → ((class : ℕ) → class_name names class ≡ None) →
    AreStaying numbers classes (take 0 blocks) names
staying_none numbers classes blocks names none = record {
  only = λ class number is. let no = none class in absurd cc;
  one = λ a b number is. let no = none a in absurd cc;
  each = λ k d inside. absurd (omega arith);
}

-- a filter keeps the members of the block
pub members_kept : (numbers list list' : List ℕ) (block : ℕ) → All (λ u. u < length numbers) list → list' ≡ filter (is_numbered numbers block) list →
    IsStillListed numbers block list list' × All (λ u. slice_index numbers u ≡ block) list'
members_kept numbers list list' block routers is =
    let passes = filter_passes (is_numbered numbers block) list in
    rw is (
      record {
        routers = All-filter (is_numbered numbers block) (λ u. u < length numbers) list routers;
        members = λ u found e. filter_contains (is_numbered numbers block) list u
            (rw (lt-ltb u (length numbers) (All-contains (λ w. w < length numbers) list u routers found)) (same_test (slice_index numbers u) block e)) found;
      },
      λ k d inside. number_of (slice_index_or (filter (is_numbered numbers block) list) k d) (passes k d inside),
    )
  where
    second : (a b : Bool) → (a && b) ≡ true → b ≡ true
    second true b e = e
    second false b e = absurd cc

    number_of : (u : ℕ) → is_numbered numbers block u ≡ true → slice_index numbers u ≡ block
    number_of u pass = test_same (slice_index numbers u) block (second (nat_lt u (length numbers)) (nat_eq (slice_index numbers u) block) pass)

pub members_in : (numbers : List ℕ) (lists : List (Vec ℕ Global)) (block : ℕ) (list list' : Vec ℕ Global) → AreListed numbers lists → block < length lists →
    list ≡ slice_index_or lists block list → list'.items ≡ filter (is_numbered numbers block) list.items → (d : Vec ℕ Global) →
    AreBlockMembers numbers block (slice_index_or (slice_set lists block list') block d).items
members_in numbers lists block list list' listed known read is d =
    let kept = members_kept numbers list.items list'.items block (routers_of numbers lists block list listed known read) is in
    rw (get_or-set_same lists block list' d known) (record {
      below = kept.0.routers;
      only = kept.1;
      all = λ u hu e. kept.0.members u (subst (λ (v : Vec ℕ Global). Contains v.items u) (ap (λ i. slice_index_or lists i list) e ∙ sym read)
          (listed.members u list hu)) e;
    })

pub listed_first : (numbers : List ℕ) (lists : List (Vec ℕ Global)) → AreBlocks numbers lists → All (λ n. n < length lists) numbers → AreListed numbers lists
listed_first numbers lists are below = record {
  below = below;
  routers = λ b d inside. let all = members_all numbers b in rw (are.each b d inside) (λ k e within. (all k e within).below);
  members = λ u d hu. let lt : slice_index numbers u < length lists = All-get_or (λ n. n < length lists) numbers u 0 hu below in
      rw (are.each (slice_index numbers u) d lt) (member numbers (slice_index numbers u) u hu refl);
}

-- a block stands once among blocks in ascending order
pub not_earlier : (xs : List ℕ) (k : ℕ) → IsStrictlyIncreasing xs → k < length xs → ¬ Contains (take k xs) (slice_index xs k)
not_earlier xs k up here (i, within, at) =
    let size = length-take k xs in
    let at' : slice_index xs i ≡ slice_index xs k = sym (get_or-take k xs i 0 (omega arith)) ∙ get_or_default (take k xs) i 0 (slice_index xs k) within ∙ at in
    let less = rising xs i k up (omega arith) here in
    omega arith
