mod TwiceLaws
