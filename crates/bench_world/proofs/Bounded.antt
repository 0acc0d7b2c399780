-- What a function with a ghost argument and bounds on two type parameters requires, after those bounds.

abbrev pub condition : {A B C D E : Type 0} → A × (B × (C × (D × E))) → E
condition r = r.1.1.1.1

-- The same bounds hold at a call of such a function, which requires its own condition.
abbrev pub passed_on : {A B C D E F X Y : Type 0} → X × Y → A × (B × (C × (D × E))) → F → X × (Y × (C × (D × F)))
passed_on within r own = (within.0, (within.1, (r.1.1.0, (r.1.1.1.0, own))))

-- What a function requires after its bounds, and its bounds at a call, where it has a third type parameter: the type of
-- a holder of parts.
abbrev pub condition_of_holder : {A B C D E F : Type 0} → A × (B × (C × (D × (E × F)))) → F
condition_of_holder r = r.1.1.1.1.1

abbrev pub holder_passed_on : {A B C D E F G X Y Z : Type 0} → X × (Y × Z) → A × (B × (C × (D × (E × F)))) → G
    → X × (Y × (Z × (D × (E × G))))
holder_passed_on within r own = (within.0, (within.1.0, (within.1.1, (r.1.1.1.0, (r.1.1.1.1.0, own)))))

-- The bounds hold at a call of such a function for a member too, whose type has no bounds.
abbrev pub member_passed_on : {A B C D E F X Y Z : Type 0} → X × Y → Z → A × (B × (C × (D × E))) → F
    → X × (Y × (Z × (C × (D × F))))
member_passed_on within none r own = (within.0, (within.1, (none, (r.1.1.0, (r.1.1.1.0, own)))))
