-- Changes added one after another.
use Rattle.change_stream.proofs.Prelude.{EntryMap, IsKeyed, IsKeyedFor, KeyedChange, List, None, Option, Some, [], ap}
use Rattle.change_stream.proofs.Prelude.{append_assoc, arith, cons_option, filter_map, get_or, inl, inr, length, map}
use Rattle.change_stream.proofs.Prelude.{map_push, option_to_list, refl, sym, take, take_all, take_more, ℕ, ◌++◌, ◌+◌}
use Rattle.change_stream.proofs.Prelude.{◌<◌, ◌∙◌, ◌∷◌, ◌≡◌, ◌≤◌, ◌⊎◌}
use Rattle.std.proofs.lemmas.List.{nil_from_length}
use Rattle.std.proofs.lemmas.List.Elements.{filter_map-append}

one_option : {Y : Type 0} (o : Option Y) → cons_option o [] ≡ option_to_list o
one_option None = refl
one_option (Some y) = refl

module _ {X : Type 0} (xs : List X) (i : ℕ) (d : X) (old now next : List KeyedChange) (lt : i < length xs) where
  pub mapped_more : (f : X → KeyedChange) → now ≡ old ++ map f (take i xs) → next ≡ now ++ f (get_or xs i d) ∷ []
      → next ≡ old ++ map f (take (i + 1) xs)
  mapped_more f done more =
      more ∙ ap (λ l. l ++ f (get_or xs i d) ∷ []) done ∙ append_assoc old (map f (take i xs)) (f (get_or xs i d) ∷ [])
      ∙ ap (λ l. old ++ l) (sym (map_push f (take i xs) (get_or xs i d)))
      ∙ ap (λ l. old ++ map f l) (sym (take_more xs i d lt))

  pub filtered_more : (f : X → Option KeyedChange) → now ≡ old ++ filter_map f (take i xs)
      → next ≡ now ++ option_to_list (f (get_or xs i d)) → next ≡ old ++ filter_map f (take (i + 1) xs)
  filtered_more f done more =
      let here : X = get_or xs i d in
      more ∙ ap (λ l. l ++ option_to_list (f here)) done
      ∙ append_assoc old (filter_map f (take i xs)) (option_to_list (f here))
      ∙ ap (λ l. old ++ (filter_map f (take i xs) ++ l)) (sym (one_option (f here)))
      ∙ ap (λ l. old ++ l) (sym (filter_map-append f (take i xs) (here ∷ [])))
      ∙ ap (λ l. old ++ filter_map f l) (sym (take_more xs i d lt))

module _ {X : Type 0} (xs : List X) (i : ℕ) (le : length xs ≤ i) where
  pub mapped_all : (f : X → KeyedChange) (old now : List KeyedChange) → now ≡ old ++ map f (take i xs)
      → now ≡ old ++ map f xs
  mapped_all f old now done = done ∙ ap (λ l. old ++ map f l) (take_all i xs le)

  pub filtered_all : (f : X → Option KeyedChange) (old now : List KeyedChange) → now ≡ old ++ filter_map f (take i xs)
      → now ≡ old ++ filter_map f xs
  filtered_all f old now done = done ∙ ap (λ l. old ++ filter_map f l) (take_all i xs le)

  pub keyed_all : (base : EntryMap) → (i ≡ 0) ⊎ IsKeyed base → IsKeyedFor base xs
  keyed_all base (inl none) = inl (nil_from_length xs (omega (arith, none, le)))
  keyed_all base (inr is) = inr is
