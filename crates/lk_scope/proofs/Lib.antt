mod ComponentLaws
